use Rattle.std.proofs.Common.{◌≡◌, map, take}
use Rattle.sqlite.specs.Value.{owned}
use Rattle.plan_tables_definitions.proofs.cells.row_of.Given as goal

abbrev pub invariant-loop-value : goal.invariant-loop-value
invariant-loop-value l = l.row ≡ map owned (take l.value-index l.values)
