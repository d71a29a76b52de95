-- the sink took the pairs so far
use Rattle.std.proofs.Common.{◌≡◌, ◌≤◌, length, take, map}
use Rattle.std.specs.Prelude.{option_copied}
use Rattle.planner_machine.specs.Content.{Sets}
use Rattle.planner_machine.specs.Sound.{AreNumbered}
use Rattle.plan_store.specs.Listed.{AreBySerial, links_at}
use Rattle.plan_store.specs.Listings.{AcceptsAll, link_shown}
use Rattle.plan_store.proofs.listed.emit_links.Given as goal

abbrev pub invariant-loop-pair : goal.invariant-loop-pair
invariant-loop-pair g l = record {
  few : l.count ≤ l.pair-index;
  taken : (s : Sets) → AreNumbered s → AreBySerial (λ row. row.now) s l.all
      → (l.count ≡ length (links_at s (option_copied l.app) (take l.pair-index l.pairs)))
      × AcceptsAll g.K.RowSink.accepts l.initial.sink
      (map link_shown (links_at s (option_copied l.app) (take l.pair-index l.pairs))) l.sink;
}
