use Rattle.std.proofs.Common.{◌≡◌, map, take}
use Rattle.sqlite.specs.Values.{bound, bound_value}
use Rattle.plan_migrations_remaking.proofs.rows.lend.Given as goal

abbrev pub invariant-loop-place : goal.invariant-loop-place
invariant-loop-place l = bound l.values.items ≡ map bound_value (take l.place l.row)
