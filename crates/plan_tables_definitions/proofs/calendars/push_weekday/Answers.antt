use Rattle.std.proofs.Common.{[], ◌∷◌, None, sym, ap, ◌∙◌, ℕ}
use Rattle.std.specs.List.{slice_index_or}
use Rattle.sqlite.specs.Order.{Row as Values}
use Rattle.sqlite.specs.declared.types.Value.TheVariants.{Text}
use Rattle.work_calendars.specs.declared.statuses.DayStatus.{DayStatus}
use Rattle.plan_tables_content.specs.Facts.{is_work, natural}
use Rattle.plan_tables_definitions.proofs.PartLemmas.{status_added}
use Rattle.plan_tables_definitions.proofs.calendars.push_weekday.Goals as goal

pub returns-in_ok-push-in-Some : goal.returns-in_ok-push-in-Some
returns-in_ok-push-in-Some c =
    let row : ℕ → DayStatus → Values = λ day status. Text c.args.name.now ∷ natural 0 ∷ natural day
    ∷ is_work status ∷ [] in
    status_added 3 (row c.args.place) (slice_index_or c.args.calendar.now.weekdays c.args.place None) c.in-Some.status
    c.in_ok-row-in-Some.row c.args.rows.now.items c.push.new.self.items
    (sym (c.weekday_status.ensures ∙ ap (λ n. slice_index_or c.args.calendar.now.weekdays n None) c.weekday_at.ensures)
    ∙ c.in-Some.is)
    c.in_ok-row-in-Some.ensures c.in_ok-push-in-Some.ensures.items
