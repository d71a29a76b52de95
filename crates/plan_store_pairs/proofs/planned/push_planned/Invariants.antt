use Rattle.std.proofs.Common.{take}
use Rattle.plan_store.specs.Views.{shown}
use Rattle.plan_store_pairs.specs.Planned.{AddsPairsOf}
use Rattle.external_dependencies.specs.Touch.{HasRowOf}
use Rattle.plan_store_pairs.proofs.planned.push_planned.Given as goal

-- the pairs of the rows so far
abbrev pub invariant-loop-row : goal.invariant-loop-row
invariant-loop-row l = AddsPairsOf (shown l.view).pairs (HasRowOf (take l.row-index l.rows)) l.initial.pairs.items
    l.pairs.items
