use Rattle.std.proofs.Common.{subst, sym}
use Rattle.std.specs.Prelude.{IfSome, IsSome}
use Rattle.plan_tables_content.specs.Content.{AreEach, HasEntry, IsTold}
use Rattle.plan_tables_content.specs.Facts.{IsCalendarRow, IsPeriodRow}
use Rattle.plan_tables_definitions.specs.Storing.{AreRowsOf}
use Rattle.plan_tables_definitions.proofs.StoredLemmas.{got_rows}
use Rattle.plan_tables_definitions.proofs.stored.days_of_rows.Goals as goal

pub returns-in_default-clause-found : goal.returns-in_default-clause-found
returns-in_default-clause-found c calendars periods sound more have those = subst IsSome c.in_default.is
    (c.in_ok-calendars.ensures.found calendars sound
    (subst (λ l. AreRowsOf IsCalendarRow l calendars) (sym c.deref.ensures.value) have))

pub returns-in_default-2-clause-found : goal.returns-in_default-2-clause-found
returns-in_default-2-clause-found c calendars periods sound more have those = subst IsSome c.in_default-2.is
    (c.in_ok-periods.ensures.found periods more
    (subst (λ l. AreRowsOf IsPeriodRow l periods) (sym c.deref-2.ensures.value) those))

pub returns-clause-calendars : goal.returns-clause-calendars
returns-clause-calendars c = got_rows IsCalendarRow c.deref.result.now c.args.stored.now.calendars.items
    c.in_ok-calendars.field-0 c.in-Some.calendars c.deref.ensures.value c.in-Some.is c.in_ok-calendars.ensures.made

pub returns-clause-periods : goal.returns-clause-periods
returns-clause-periods c = got_rows IsPeriodRow c.deref-2.result.now c.args.stored.now.periods.items
    c.in_ok-periods.field-0 c.in-Some-2.periods c.deref-2.ensures.value c.in-Some-2.is c.in_ok-periods.ensures.made

pub returns-clause-told : goal.returns-clause-told
returns-clause-told c = subst (λ o. IfSome o (AreEach IsTold)) c.in-Some.is c.in_ok-calendars.ensures.told

pub returns-clause-entries : goal.returns-clause-entries
returns-clause-entries c = subst (λ o. IfSome o (AreEach HasEntry)) c.in-Some-2.is c.in_ok-periods.ensures.told
