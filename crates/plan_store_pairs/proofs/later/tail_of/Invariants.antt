use Rattle.std.proofs.Common.{ℕ, ◌<◌, ◌≤◌, get_or, length}
use Rattle.occurrences.specs.declared.row.Row.{Row}
use Rattle.plan_store_pairs.proofs.later.tail_of.Given as goal

-- the rows from the place on arrive at the moment or later
abbrev pub invariant-loop-start : goal.invariant-loop-start
invariant-loop-start l = record {
  within : l.start ≤ length l.rows;
  after : (i : ℕ) (d : Row) → l.start ≤ i → i < length l.rows → l.moment ≤ (get_or l.rows i d).key.ia;
}

abbrev pub decreases-loop-start : goal.decreases-loop-start
decreases-loop-start l = l.start
