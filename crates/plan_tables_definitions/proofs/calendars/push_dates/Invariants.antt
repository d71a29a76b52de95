use Rattle.plan_tables_definitions.specs.Adding.{Adds, IsOfPlace}
use Rattle.plan_tables_definitions.specs.Parts.{IsDateRow}
use Rattle.plan_tables_definitions.proofs.calendars.push_dates.Given as goal

abbrev pub invariant-loop-day : goal.invariant-loop-day
invariant-loop-day l = Adds 3 (IsOfPlace (λ _. IsDateRow l.name l.calendar) l.days l.day-index) l.fn.rows.items
    l.rows.items
