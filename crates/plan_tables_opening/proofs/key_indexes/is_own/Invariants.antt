use Rattle.std.specs.List.{AllWithin}
use Rattle.plan_tables_opening.specs.Indexes.{IsOwnOf}
use Rattle.plan_tables_opening.proofs.key_indexes.is_own.Given as goal

abbrev pub invariant-loop-table : goal.invariant-loop-table
invariant-loop-table l = AllWithin (IsOwnOf l.tables l.index) l.made 0 l.table-index
