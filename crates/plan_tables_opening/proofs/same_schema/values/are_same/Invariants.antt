use Rattle.std.proofs.Common.{◌≡◌, take}
use Rattle.plan_tables_opening.proofs.same_schema.values.are_same.Given as goal

abbrev pub invariant-loop-i : goal.invariant-loop-i
invariant-loop-i g l = take l.i l.xs ≡ take l.i l.ys
