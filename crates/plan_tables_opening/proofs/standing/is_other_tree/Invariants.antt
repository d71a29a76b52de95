use Rattle.std.proofs.Common.{◌≢◌}
use Rattle.sqlite_schema.specs.declared.schema.Table.{Table}
use Rattle.std.specs.List.{AllWithin}
use Rattle.plan_tables_opening.proofs.standing.is_other_tree.Given as goal

abbrev pub invariant-loop-table : goal.invariant-loop-table
invariant-loop-table l = AllWithin (λ (t : Table). l.tree ≢ t.tree) l.tables 0 l.table-index
