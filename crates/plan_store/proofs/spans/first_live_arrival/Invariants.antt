use Rattle.std.proofs.Common.{◌≡◌, ℕ, ◌<◌, get_or}
use Rattle.occurrences.specs.declared.place.CurrentRow.{CurrentRow}
use Rattle.occurrences.specs.declared.status.Status.TheVariants.{D}
use Rattle.plan_store.proofs.spans.first_live_arrival.Given as goal

-- those that were passed are deleted
abbrev pub invariant-loop-current : goal.invariant-loop-current
invariant-loop-current l = (k : ℕ) (d : CurrentRow) → k < l.current-index → (get_or l.rows k d).status ≡ D
