use Rattle.std.proofs.Common.{◌≤◌, take}
use Rattle.std.specs.List.{Contains}
use Rattle.occurrences.specs.declared.row.Row.{Row}
use Rattle.plan_store_pairs.proofs.later.first_of.Given as goal

-- it is the first of the rows so far
abbrev pub invariant-loop-row : goal.invariant-loop-row
invariant-loop-row l = (row : Row) → Contains (take l.row-index l.rows) row → l.first ≤ row.key.ia
