use Rattle.std.proofs.Common.{take}
use Rattle.plan_store_lists.specs.Rows.{of_deletion}
use Rattle.plan_store.specs.Contents.{content_of}
use Rattle.plan_tables_windows.specs.Unknown.{AddsUnsettled, IsSerialIn, is_settled_deletion}
use Rattle.plan_tables_windows.proofs.unknown.add_deletions.Given as goal

-- those so far
abbrev pub invariant-loop-deletion : goal.invariant-loop-deletion
invariant-loop-deletion l = AddsUnsettled (is_settled_deletion (content_of l.lists).sets) (IsSerialIn of_deletion (take l.deletion-index l.deletions))
    l.initial.serials.items l.serials.items
