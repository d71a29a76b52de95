use Rattle.std.proofs.Common.{◌≡◌, drop, take}
use Rattle.plan_tables_definitions.proofs.tails.tail_of.Given as goal

abbrev pub invariant-loop-place : goal.invariant-loop-place
invariant-loop-place l = l.tail ≡ drop 1 (take l.place l.row)
