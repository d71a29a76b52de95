use Rattle.std.proofs.Common.{◌≡◌, ℕ, ◌<◌, ◌≤◌, length, get_or}
use Rattle.occurrences.specs.declared.place.CurrentRow.{CurrentRow}
use Rattle.occurrences.specs.declared.status.Status.TheVariants.{D}
use Rattle.plan_store.proofs.arrivals.last_live.Given as goal

-- what is left behind is deleted
abbrev pub invariant-loop-left : goal.invariant-loop-left
invariant-loop-left l = record {
  within : l.left ≤ length l.rows;
  deleted : (k : ℕ) (d : CurrentRow) → l.left ≤ k → k < length l.rows → (get_or l.rows k d).status ≡ D;
}

abbrev pub decreases-loop-left : goal.decreases-loop-left
decreases-loop-left l = l.left
