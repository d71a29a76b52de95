-- the sink took the pairs so far
use Rattle.std.proofs.Common.{◌≡◌, ◌≤◌, length, take, map, Some}
use Rattle.plan_store.specs.AppPairs.{AreBySerials, with_others}
use Rattle.plan_store.specs.Contents.{content_of}
use Rattle.plan_store.specs.Listed.{links_at}
use Rattle.plan_store.specs.Listings.{AcceptsAll, link_shown}
use Rattle.plan_store.proofs.contents.Content.hand_known.Given as goal

abbrev pub invariant-loop-pair : goal.invariant-loop-pair
invariant-loop-pair g l = record {
  few : l.count ≤ l.pair-index;
  taken : AreBySerials l.others
      → (l.count ≡ length (links_at (with_others l.others (content_of l.self).sets) (Some l.app)
      (take l.pair-index l.pairs)))
      × AcceptsAll g.K.RowSink.accepts l.initial.sink (map link_shown
      (links_at (with_others l.others (content_of l.self).sets) (Some l.app) (take l.pair-index l.pairs))) l.sink;
}
