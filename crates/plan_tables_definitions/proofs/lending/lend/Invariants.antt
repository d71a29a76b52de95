use Rattle.std.proofs.Common.{◌≡◌, map, take}
use Rattle.sqlite.specs.Values.{bound, bound_value}
use Rattle.plan_tables_definitions.proofs.lending.lend.Given as goal

abbrev pub invariant-loop-place : goal.invariant-loop-place
invariant-loop-place l = bound l.values.items ≡ map bound_value (take l.place l.row)
