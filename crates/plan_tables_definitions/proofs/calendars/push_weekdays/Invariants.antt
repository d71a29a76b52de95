use Rattle.plan_tables_definitions.specs.Adding.{Adds, IsUpTo}
use Rattle.plan_tables_definitions.specs.Parts.{IsWeekdayRow}
use Rattle.plan_tables_definitions.proofs.calendars.push_weekdays.Given as goal

abbrev pub invariant-loop-place : goal.invariant-loop-place
invariant-loop-place l = Adds 3 (IsUpTo (IsWeekdayRow l.name l.calendar) l.place) l.fn.rows.items l.rows.items
