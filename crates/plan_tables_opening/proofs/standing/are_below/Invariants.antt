use Rattle.std.proofs.Common.{◌<◌}
use Rattle.sqlite_schema.specs.declared.schema.Index.{Index}
use Rattle.std.specs.List.{AllWithin}
use Rattle.plan_tables_opening.proofs.standing.are_below.Given as goal

abbrev pub invariant-loop-index : goal.invariant-loop-index
invariant-loop-index l = AllWithin (λ (i : Index). i.table < l.next) l.indexes 0 l.index-index
