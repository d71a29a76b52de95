use Rattle.std.proofs.Common.{◌≡◌, take}
use Rattle.plan_tables_definitions.proofs.copying.copied_rows.Given as goal

abbrev pub invariant-loop-row : goal.invariant-loop-row
invariant-loop-row l = l.rows.items ≡ take l.row-index l.read
