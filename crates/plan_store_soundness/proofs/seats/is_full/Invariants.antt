use Rattle.std.proofs.Common.{◌≡◌, ℕ, ◌<◌, None, Some, slice_index_or}
use Rattle.external_dependencies.specs.declared.rows.PlacedRow.{PlacedRow}
use Rattle.plan_store_soundness.proofs.seats.is_full.Given as goal

abbrev pub invariant-loop-row : goal.invariant-loop-row
invariant-loop-row l = (k : ℕ) → k < l.row-index → (p : PlacedRow) × (slice_index_or l.table k None ≡ Some p)
