use Rattle.std.proofs.Common.{◌↔◌, ℕ, ap, ◌∙◌, subst, sym}
use Rattle.std.specs.Prelude.{Contains, map as list_map}
use Rattle.std.specs.FinMap as map
use Rattle.std.proofs.lemmas.Result.{on_ok_weaker}
use Rattle.work_calendars.specs.declared.statuses.DayStatus.{DayStatus}
use Rattle.plan_tables_definitions.proofs.PartLemmas.{calendar_added}
use Rattle.plan_tables_definitions.proofs.calendars.push_entries.Goals as goal

pub returns-clause-added : goal.returns-clause-added
returns-clause-added c = on_ok_weaker c.push_dates.result
    (calendar_added c.args.name.now c.args.calendar.now c.deref.result.now
    c.in_ok-dates.ensures.week (ap map.from_entries c.deref.ensures.value ∙ c.in_ok-dates.ensures.all)
    c.deref-2.result.now
    (subst (λ days. (day : ℕ) → Contains days day
    ↔ Contains (list_map (λ (e : ℕ × DayStatus). e.0) c.deref.result.now) day)
    (sym c.deref-2.ensures.value) c.in_ok-days.ensures.exactly)
    c.args.rows.now.items c.push_weekdays.new.rows.items c.push_dates.new.rows.items c.in_ok-push_weekdays.ensures)
    c.push_dates.ensures
