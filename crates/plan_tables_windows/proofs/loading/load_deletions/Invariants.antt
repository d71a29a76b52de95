use Rattle.std.proofs.Common.{Ok, take}
use Rattle.plan_store.specs.Contents.{content_of}
use Rattle.plan_tables_windows.specs.Loading.{LoadsEach}
use Rattle.plan_tables_windows.proofs.loading.load_deletions.Given as goal

-- those of the deletions so far
abbrev pub invariant-loop-deletion : goal.invariant-loop-deletion
invariant-loop-deletion l = LoadsEach (take l.deletion-index l.deletions) (content_of l.initial.lists)
    (content_of l.lists) (Ok tt)
