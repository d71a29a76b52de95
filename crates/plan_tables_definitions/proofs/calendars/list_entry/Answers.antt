use Rattle.std.proofs.Common.{List, ℕ, subst, sym}
use Rattle.std.specs.Prelude.{IsTrue}
use Rattle.std.proofs.lemmas.Result.{IfOk-weaker}
use Rattle.work_calendars.specs.Calendar.{CalendarEntries}
use Rattle.plan_tables_content.specs.Facts.{IsCalendarRow}
use Rattle.plan_tables_definitions.specs.Drafted.{IsSoundCalendar, RepresentsEntry, calendar_values}
use Rattle.plan_tables_definitions.specs.Gathering.{Joins, Within}
use Rattle.plan_tables_definitions.proofs.calendars.list_entry.Goals as goal

pub returns-then-kind-eq0-clause-taken : goal.returns-then-kind-eq0-clause-taken
returns-then-kind-eq0-clause-taken c name is = subst (λ k. Joins (IsCalendarRow name c.args.calendar.now)
    (calendar_values name k c.args.number c.args.status) (IsCalendarRow name c.list_week_entry.new.calendar))
    (sym c.if-kind-eq0.true) (c.list_week_entry.ensures.taken name is)

pub returns-then-kind-eq0-clause-refused : goal.returns-then-kind-eq0-clause-refused
returns-then-kind-eq0-clause-refused c d name sound told within = c.list_week_entry.ensures.refused d name sound
    (subst (λ k. RepresentsEntry d k c.args.number c.args.status) c.if-kind-eq0.true told) within

pub returns-then-kind-eq1-clause-taken : goal.returns-then-kind-eq1-clause-taken
returns-then-kind-eq1-clause-taken c =
    let old = c.args.calendar.now in
    let new = c.list_day_entry.new.calendar in
    IfOk-weaker c.list_day_entry.result (λ b. (name : List ℕ) → IsTrue b → Joins (IsCalendarRow name old)
    (calendar_values name 1 c.args.number c.args.status) (IsCalendarRow name new)) _
    (λ b taken name is. subst (λ k. Joins (IsCalendarRow name old) (calendar_values name k c.args.number c.args.status)
    (IsCalendarRow name new)) (sym c.if-kind-eq1.true) (taken name is)) c.list_day_entry.ensures.taken

pub returns-then-kind-eq1-clause-refused : goal.returns-then-kind-eq1-clause-refused
returns-then-kind-eq1-clause-refused c =
    let old = c.args.calendar.now in
    IfOk-weaker c.list_day_entry.result (λ b. (d : CalendarEntries) (name : List ℕ) → IsSoundCalendar name d
    → RepresentsEntry d 1 c.args.number c.args.status → Within (IsCalendarRow name old) (IsCalendarRow name d) → IsTrue b) _
    (λ b refused d name sound told within. refused d name sound
    (subst (λ k. RepresentsEntry d k c.args.number c.args.status) c.if-kind-eq1.true told) within)
    c.list_day_entry.ensures.refused
