use Rattle.plan_tables_opening.specs.Standing.{IsThere}
use Rattle.std.specs.List.{AllWithin}
use Rattle.plan_tables_opening.proofs.standing.are_there.Given as goal

abbrev pub invariant-loop-table : goal.invariant-loop-table
invariant-loop-table l = AllWithin (IsThere l.tables) l.made 0 l.table-index
