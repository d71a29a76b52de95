use Rattle.std.specs.List.{AllWithin}
use Rattle.plan_store_soundness.specs.Arrivals.{IsFreeOf}
use Rattle.plan_store_soundness.proofs.arrivals.none_deleted.Given as goal

abbrev pub invariant-loop-row : goal.invariant-loop-row
invariant-loop-row l = AllWithin (IsFreeOf l.deletions) l.rows 0 l.row-index
