use Rattle.std.proofs.Common.{◌≡◌, false}
use Rattle.sqlite_schema.specs.Names.{same_name}
use Rattle.sqlite_schema.specs.declared.schema.Table.{Table}
use Rattle.std.specs.List.{AllWithin}
use Rattle.plan_tables_opening.proofs.standing.is_aside.Given as goal

abbrev pub invariant-loop-table : goal.invariant-loop-table
invariant-loop-table l = AllWithin (λ (t : Table). same_name t.name l.reference.parent ≡ false) l.tables 0 l.table-index
