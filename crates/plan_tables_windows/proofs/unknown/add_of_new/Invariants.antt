use Rattle.std.proofs.Common.{take}
use Rattle.plan_store.specs.Contents.{content_of}
use Rattle.plan_tables_windows.specs.Unknown.{AddsUnsettled, IsPredecessorOfNew, is_settled}
use Rattle.plan_tables_windows.proofs.unknown.add_of_new.Given as goal

-- those so far
abbrev pub invariant-loop-row : goal.invariant-loop-row
invariant-loop-row g l = AddsUnsettled (is_settled (content_of l.lists).sets)
    (IsPredecessorOfNew g.T.PlanRow.row_of (content_of l.lists) (take l.row-index l.rows)) l.initial.serials.items
    l.serials.items
