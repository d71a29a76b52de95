use Rattle.std.proofs.Common.{take}
use Rattle.plan_store.specs.AppPairs.{AddsPairs}
use Rattle.plan_store.proofs.app_pairs.push_pairs.Given as goal

-- those of the rows so far
abbrev pub invariant-loop-x : goal.invariant-loop-x
invariant-loop-x g l = AddsPairs g.T.PlanRow.row_of l.app l.pairs (take l.x-index l.rows) l.initial.found.items
    l.found.items
