use Rattle.plan_tables_definitions.specs.Adding.{Adds, IsOfPlace}
use Rattle.plan_tables_definitions.specs.Parts.{IsListedRow}
use Rattle.plan_tables_definitions.proofs.periods.push_listed.Given as goal

abbrev pub invariant-loop-place : goal.invariant-loop-place
invariant-loop-place l = Adds 2 (IsOfPlace (IsListedRow l.name) l.entries l.place) l.fn.rows.items l.rows.items
