use Rattle.std.specs.List.{AllWithin}
use Rattle.external_dependencies.specs.declared.rows.PlacedRow.{PlacedRow}
use Rattle.planner_machine.specs.Sound.{ArrivesIn}
use Rattle.plan_store_soundness.proofs.arrivals.all_arrive.Given as goal

abbrev pub invariant-loop-placed : goal.invariant-loop-placed
invariant-loop-placed l = AllWithin (λ (p : PlacedRow). ArrivesIn l.bounds p.row.key.ia p.place) l.all 0 l.placed-index
