use Rattle.std.proofs.Common.{◌≡◌, false}
use Rattle.sqlite_catalog.specs.Change.{is_used}
use Rattle.sqlite_schema.specs.declared.schema.Table.{Table}
use Rattle.std.specs.List.{AllWithin}
use Rattle.plan_tables_opening.proofs.standing.are_tables_new.Given as goal

abbrev pub invariant-loop-table : goal.invariant-loop-table
invariant-loop-table l = AllWithin (λ (t : Table). is_used l.schema t.name ≡ false) l.made 0 l.table-index
