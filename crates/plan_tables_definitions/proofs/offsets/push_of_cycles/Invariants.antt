use Rattle.plan_tables_definitions.specs.Adding.{Adds, IsOfPlace}
use Rattle.plan_tables_definitions.specs.Parts.{IsOffsetOf}
use Rattle.plan_tables_definitions.proofs.offsets.push_of_cycles.Given as goal

abbrev pub invariant-loop-cycle : goal.invariant-loop-cycle
invariant-loop-cycle l = Adds 3 (IsOfPlace (λ _. IsOffsetOf l.app) l.cycles l.cycle-index) l.fn.rows.items l.rows.items
