use Rattle.std.proofs.Common.{List, ℕ, subst, sym}
use Rattle.std.specs.Prelude.{IsTrue}
use Rattle.std.proofs.lemmas.Result.{IfOk-weaker}
use Rattle.work_calendars.specs.Calendar.{CalendarEntries}
use Rattle.plan_tables_content.specs.Facts.{IsCalendarRow}
use Rattle.plan_tables_definitions.specs.Drafted.{IsSoundCalendar, RepresentsEntry, calendar_values}
use Rattle.plan_tables_definitions.specs.Gathering.{Joins, Within}
use Rattle.plan_tables_definitions.proofs.DraftLemmas.{entry_told}
use Rattle.plan_tables_definitions.proofs.calendars.CalendarDraftDraft.join.Goals as goal

pub returns-clause-taken : goal.returns-clause-taken
returns-clause-taken c =
    let name = c.args.name.now in
    let old = c.args.self.now.calendar in
    let new = c.list_entry.new.calendar in
    IfOk-weaker c.list_entry.result (λ b. (name : List ℕ) → IsTrue b → Joins (IsCalendarRow name old)
    (calendar_values name c.in-Some.kind c.in-Some.day c.in-Some.status) (IsCalendarRow name new)) _
    (λ b taken is. subst (λ row. Joins (IsCalendarRow name old) row (IsCalendarRow name new))
    (sym c.in-Some.ensures.value) (taken name is)) c.list_entry.ensures.taken

pub returns-clause-refused : goal.returns-clause-refused
returns-clause-refused c =
    let name = c.args.name.now in
    let old = c.args.self.now.calendar in
    IfOk-weaker c.list_entry.result (λ b. (d : CalendarEntries) (name : List ℕ) → IsSoundCalendar name d
    → RepresentsEntry d c.in-Some.kind c.in-Some.day c.in-Some.status → Within (IsCalendarRow name old) (IsCalendarRow name
    d)
    → IsTrue b) _
    (λ b refused d sound is within. refused d name sound (entry_told name d c.in-Some.kind c.in-Some.day
    c.in-Some.status
    (subst (IsCalendarRow name d) c.in-Some.ensures.value is)) within) c.list_entry.ensures.refused
