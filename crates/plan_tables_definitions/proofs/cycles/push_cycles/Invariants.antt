use Rattle.plan_tables_definitions.specs.Adding.{Adds, IsOfPlace}
use Rattle.plan_tables_definitions.specs.Parts.{IsRowOfCycle}
use Rattle.plan_tables_definitions.proofs.cycles.push_cycles.Given as goal

abbrev pub invariant-loop-cycle : goal.invariant-loop-cycle
invariant-loop-cycle l = Adds 2 (IsOfPlace (λ _. IsRowOfCycle l.app) l.cycles l.cycle-index)
    l.fn.rows.items l.rows.items
