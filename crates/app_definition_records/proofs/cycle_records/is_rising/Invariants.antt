-- up to the place before this one, each name is below the next
use Rattle.run_cycles.specs.declared.cycles.RunCycle.{RunCycle}
use Rattle.app_definition_records.proofs.RisingLemmas.{RisesTo}
use Rattle.app_definition_records.proofs.cycle_records.is_rising.Given as goal

abbrev pub invariant-loop-i : goal.invariant-loop-i
invariant-loop-i l = RisesTo (λ (cycle : RunCycle). cycle.name) l.cycles l.i
