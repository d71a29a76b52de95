use Rattle.std.proofs.Common.{◌≡◌, take}
use Rattle.plan_tables_definitions.proofs.copying.copied.Given as goal

abbrev pub invariant-loop-place : goal.invariant-loop-place
invariant-loop-place l = l.row ≡ take l.place l.read
