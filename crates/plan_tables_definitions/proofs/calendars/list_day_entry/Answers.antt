use Rattle.std.proofs.Common.{List, ℕ, subst, sym}
use Rattle.std.specs.Prelude.{IsTrue}
use Rattle.std.proofs.lemmas.Result.{IfOk-weaker}
use Rattle.work_calendars.specs.Calendar.{CalendarEntries}
use Rattle.plan_tables_content.specs.Facts.{IsCalendarRow}
use Rattle.plan_tables_definitions.specs.Drafted.{RepresentsEntry, calendar_values}
use Rattle.plan_tables_definitions.specs.Gathering.{Joins, Within}
use Rattle.plan_tables_definitions.proofs.calendars.list_day_entry.Goals as goal

pub returns-in-Some-clause-taken : goal.returns-in-Some-clause-taken
returns-in-Some-clause-taken c =
    let old = c.args.calendar.now in
    let new = c.list_date.new.calendar in
    IfOk-weaker c.list_date.result (λ b. (name : List ℕ) → IsTrue b → Joins (IsCalendarRow name old)
    (calendar_values name 1 c.in-Some.day c.args.status) (IsCalendarRow name new)) _
    (λ b taken name is. subst (λ n. Joins (IsCalendarRow name old) (calendar_values name 1 n c.args.status)
    (IsCalendarRow name new)) c.in-Some.ensures.value (taken name is)) c.list_date.ensures.taken

pub returns-in-Some-clause-refused : goal.returns-in-Some-clause-refused
returns-in-Some-clause-refused c =
    let old = c.args.calendar.now in
    IfOk-weaker c.list_date.result (λ b. (d : CalendarEntries) (name : List ℕ)
    → RepresentsEntry d 1 c.in-Some.day c.args.status → Within (IsCalendarRow name old) (IsCalendarRow name d) → IsTrue b) _
    (λ b refused d name sound told within. refused d name
    (subst (λ n. RepresentsEntry d 1 n c.args.status) (sym c.in-Some.ensures.value) told) within) c.list_date.ensures.refused
