use Rattle.std.proofs.Common.{[], take}
use Rattle.plan_store.specs.Views.{shown}
use Rattle.plan_store_pairs.specs.Planned.{AddsPairsOf, IsOpenOfOne}
use Rattle.plan_store_pairs.proofs.planned.pairs_of_apps.Given as goal

-- the pairs of the applications so far
abbrev pub invariant-loop-app : goal.invariant-loop-app
invariant-loop-app l = AddsPairsOf (shown l.view).pairs (IsOpenOfOne (shown l.view).sets (take l.app-index l.apps)) []
    l.pairs.items
