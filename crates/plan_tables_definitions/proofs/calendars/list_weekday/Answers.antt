use Rattle.std.proofs.Common.{inl, refl, ap, sym, ◌∙◌, subst, Some, None, arith}
use Rattle.std.specs.List.{slice_index_or}
use Rattle.work_calendars.specs.Calendar.{with_weekday}
use Rattle.plan_tables_content.specs.Facts.{IsCalendarRow}
use Rattle.plan_tables_definitions.specs.Drafted.{calendar_values}
use Rattle.plan_tables_definitions.specs.Gathering.{Joins}
use Rattle.plan_tables_definitions.proofs.DraftLemmas.{entry_told, gets_weekday, has_entry, one_status, told_entry}
use Rattle.plan_tables_definitions.proofs.calendars.list_weekday.Goals as goal

pub returns-in-Some-clause-taken : goal.returns-in-Some-clause-taken
returns-in-Some-clause-taken c name is = has_entry name c.args.calendar.now 0 c.args.place c.args.status
    (inl (
      refl,
      ap (λ w. slice_index_or c.args.calendar.now.weekdays w None) (sym c.weekday_at.ensures)
          ∙ sym c.weekday_status.ensures ∙ c.in-Some.is ∙ ap Some (c.is_same.ensures.0 is),
    ))

pub returns-in-Some-clause-refused : goal.returns-in-Some-clause-refused
returns-in-Some-clause-refused c d name told within = c.is_same.ensures.1 (one_status d 0 c.args.place c.in-Some.listed
    c.args.status (entry_told name d 0 c.args.place c.in-Some.listed (within (calendar_values name 0 c.args.place
    c.in-Some.listed) (told_entry name c.args.calendar.now 0 c.args.place c.in-Some.listed
    (inl (
      refl,
      ap (λ w. slice_index_or c.args.calendar.now.weekdays w None) (sym c.weekday_at.ensures)
          ∙ sym c.weekday_status.ensures ∙ c.in-Some.is,
    ))))) told)

pub returns-in-None-clause-taken : goal.returns-in-None-clause-taken
returns-in-None-clause-taken c name _ = subst (λ l. Joins (IsCalendarRow name c.args.calendar.now)
    (calendar_values name 0 c.args.place c.args.status) (IsCalendarRow name l))
    (ap (λ w. with_weekday c.args.calendar.now w c.args.status) (sym c.weekday_at-in-None.ensures)
    ∙ sym c.set_weekday.ensures)
    (gets_weekday name c.args.calendar.now c.args.place c.args.status
    (let under = c.requires.place in let week = c.requires.week in omega (arith, under, week))
    (ap (λ w. slice_index_or c.args.calendar.now.weekdays w None) (sym c.weekday_at.ensures)
    ∙ sym c.weekday_status.ensures ∙ c.in-None.is))
