-- up to the place before this one, each name is below the next
use Rattle.app_definition_records.specs.declared.predecessors.Predecessor.{Predecessor}
use Rattle.app_definition_records.proofs.RisingLemmas.{RisesTo}
use Rattle.app_definition_records.proofs.predecessors.is_rising.Given as goal

abbrev pub invariant-loop-i : goal.invariant-loop-i
invariant-loop-i l = RisesTo (λ (p : Predecessor). p.name) l.listed l.i
