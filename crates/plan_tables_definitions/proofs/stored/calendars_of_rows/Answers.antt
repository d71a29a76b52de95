use Rattle.std.proofs.Common.{subst, ◌∙◌}
use Rattle.std.specs.Prelude.{IfOk, IfSome, IsSome}
use Rattle.work_calendars.specs.Calendar.{CalendarEntries}
use Rattle.plan_tables_content.specs.Facts.{IsCalendarRow}
use Rattle.plan_tables_content.specs.Content.{ByName}
use Rattle.plan_tables_definitions.specs.Drafted.{IsSoundCalendar}
use Rattle.plan_tables_definitions.specs.Gathering.{AreSound}
use Rattle.plan_tables_definitions.specs.Storing.{AreRowsOf}
use Rattle.plan_tables_definitions.proofs.stored.calendars_of_rows.Goals as goal

pub returns-clause-made : goal.returns-clause-made
returns-clause-made c = subst (λ l. IfOk c.read_calendars.result (λ found. IfSome found (AreRowsOf IsCalendarRow l)))
    (c.deref.ensures.value ∙ c.in_ok-rows.ensures) c.read_calendars.ensures.made

pub returns-clause-found : goal.returns-clause-found
returns-clause-found c = subst (λ l. IfOk c.read_calendars.result (λ found. (all : ByName CalendarEntries)
    → AreSound IsSoundCalendar all → AreRowsOf IsCalendarRow l all → IsSome found))
    (c.deref.ensures.value ∙ c.in_ok-rows.ensures) c.read_calendars.ensures.found
