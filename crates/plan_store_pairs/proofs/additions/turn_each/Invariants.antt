use Rattle.std.proofs.Common.{take}
use Rattle.std.specs.List.{Contains}
use Rattle.external_dependencies.specs.Link.{AreNamedOnce}
use Rattle.plan_store.specs.Views.{HoldsOfSound}
use Rattle.plan_store.specs.declared.stores.Need.TheVariants.{Key}
use Rattle.plan_store_pairs.specs.Additions.{IsLeftPair, IsTurnedPair}
use Rattle.plan_store_pairs.specs.Gathering.{AddsEach, IsReached}
use Rattle.plan_store_pairs.specs.declared.gathering.Reached.{Reached}
use Rattle.plan_store_pairs.proofs.additions.turn_each.Given as goal

-- those so far are turned
abbrev pub invariant-loop-x : goal.invariant-loop-x
invariant-loop-x l = HoldsOfSound (Key l.row.key) l.view (λ c. AreNamedOnce c.in_force
    → ((x : Reached) → Contains l.found x → IsReached c l.row x)
    → AddsEach (IsLeftPair c l.row) (take l.x-index l.found) l.initial.removed.items l.removed.items
    × AddsEach (IsTurnedPair c l.row) (take l.x-index l.found) l.initial.added.items l.added.items)
