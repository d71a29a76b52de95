use Rattle.std.proofs.Common.{inr, refl, ap, sym, ◌∙◌, subst, Some}
use Rattle.plan_tables_content.specs.Facts.{IsCalendarRow}
use Rattle.plan_tables_definitions.specs.Drafted.{calendar_values}
use Rattle.plan_tables_definitions.specs.Gathering.{Joins}
use Rattle.plan_tables_definitions.proofs.DraftLemmas.{entry_told, gets_date, has_entry, one_status, told_entry}
use Rattle.plan_tables_definitions.proofs.calendars.list_date.Goals as goal

pub returns-in-Some-clause-taken : goal.returns-in-Some-clause-taken
returns-in-Some-clause-taken c name is = has_entry name c.args.calendar.now 1 c.args.day c.args.status
    (inr (refl, sym c.date_status.ensures ∙ c.in-Some.is ∙ ap Some (c.is_same.ensures.0 is)))

pub returns-in-Some-clause-refused : goal.returns-in-Some-clause-refused
returns-in-Some-clause-refused c d name told within = c.is_same.ensures.1 (one_status d 1 c.args.day c.in-Some.listed
    c.args.status (entry_told name d 1 c.args.day c.in-Some.listed (within (calendar_values name 1 c.args.day
    c.in-Some.listed) (told_entry name c.args.calendar.now 1 c.args.day c.in-Some.listed
    (inr (refl, sym c.date_status.ensures ∙ c.in-Some.is))))) told)

pub returns-in_ok-set_date-in-None-clause-taken : goal.returns-in_ok-set_date-in-None-clause-taken
returns-in_ok-set_date-in-None-clause-taken c name _ = subst (λ l. Joins (IsCalendarRow name c.args.calendar.now)
    (calendar_values name 1 c.args.day c.args.status) (IsCalendarRow name l)) (sym c.in_ok-set_date-in-None.ensures.ok)
    (gets_date name c.args.calendar.now c.args.day c.args.status (sym c.date_status.ensures ∙ c.in-None.is))
