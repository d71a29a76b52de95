use Rattle.std.specs.List.{AllWithin}
use Rattle.external_dependencies.specs.declared.rows.PlacedRow.{PlacedRow}
use Rattle.planner_machine.specs.Sound.{IsRow}
use Rattle.plan_store_soundness.proofs.ranges.are_rows.Given as goal

abbrev pub invariant-loop-placed : goal.invariant-loop-placed
invariant-loop-placed l = AllWithin (λ (p : PlacedRow). IsRow p.row) l.all 0 l.placed-index
