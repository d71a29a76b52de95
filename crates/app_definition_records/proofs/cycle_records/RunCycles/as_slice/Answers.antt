use Rattle.app_definition_records.proofs.RisingLemmas.{own_names}
use Rattle.app_definition_records.proofs.cycle_records.RunCycles.as_slice.Goals as goal

pub returns-clause-own_names : goal.returns-clause-own_names
returns-clause-own_names c = rw c.deref.ensures.value
    (own_names (λ cycle. cycle.name) c.self.inside.cycles.items c.self.invariant)
