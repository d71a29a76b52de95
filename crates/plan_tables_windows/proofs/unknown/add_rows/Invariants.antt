use Rattle.std.proofs.Common.{take}
use Rattle.plan_store_lists.specs.Rows.{of_row}
use Rattle.plan_store.specs.Contents.{content_of}
use Rattle.plan_tables_windows.specs.Unknown.{AddsUnsettled, IsSerialIn, is_settled}
use Rattle.plan_tables_windows.proofs.unknown.add_rows.Given as goal

-- those so far
abbrev pub invariant-loop-row : goal.invariant-loop-row
invariant-loop-row l = AddsUnsettled (is_settled (content_of l.lists).sets) (IsSerialIn of_row (take l.row-index l.rows))
    l.initial.serials.items l.serials.items
