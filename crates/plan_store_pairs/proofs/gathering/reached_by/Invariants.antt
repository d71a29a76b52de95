use Rattle.std.proofs.Common.{take, []}
use Rattle.planner_machine.specs.Sound.{AreNumbered}
use Rattle.plan_store.specs.Views.{HoldsOfAny}
use Rattle.plan_store_pairs.specs.Gathering.{AddsEach}
use Rattle.plan_store_pairs.proofs.GatherLemmas.{IsReachedThere}
use Rattle.plan_store_pairs.proofs.gathering.reached_by.Given as goal

-- those of the links so far
abbrev pub invariant-loop-naming : goal.invariant-loop-naming
invariant-loop-naming l = HoldsOfAny l.view (λ c. AreNumbered c.sets
    → AddsEach (IsReachedThere c.sets l.row l.last) (take l.naming-index l.naming-items) [] l.found.items)
