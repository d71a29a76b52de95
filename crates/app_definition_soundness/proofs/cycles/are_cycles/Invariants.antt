use Rattle.std.specs.List.{AllWithin}
use Rattle.app_definition_soundness.specs.Values.{IsCycleValue}
use Rattle.app_definition_soundness.proofs.cycles.are_cycles.Given as goal

abbrev pub invariant-loop-cycle : goal.invariant-loop-cycle
invariant-loop-cycle l = AllWithin IsCycleValue l.cycles 0 l.cycle-index
