use Rattle.std.proofs.Common.{take}
use Rattle.plan_store.specs.Views.{shown}
use Rattle.plan_store_pairs.specs.Planned.{AddsPairsOf, HasWaiting}
use Rattle.plan_store_pairs.proofs.planned.push_waiting.Given as goal

-- the pairs of what waits of the rows so far
abbrev pub invariant-loop-current : goal.invariant-loop-current
invariant-loop-current l = AddsPairsOf (shown l.view).pairs (HasWaiting (take l.current-index l.list))
    l.initial.pairs.items l.pairs.items
