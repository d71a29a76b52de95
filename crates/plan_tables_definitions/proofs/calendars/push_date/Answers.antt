use Rattle.std.proofs.Common.{[], ◌∷◌, sym, ap, ◌∙◌, ℕ}
use Rattle.std.specs.FinMap as map
use Rattle.sqlite.specs.Order.{Row as Values}
use Rattle.sqlite.specs.declared.types.Value.TheVariants.{Text}
use Rattle.work_calendars.specs.declared.statuses.DayStatus.{DayStatus}
use Rattle.plan_tables_content.specs.Facts.{is_work, natural}
use Rattle.plan_tables_definitions.proofs.PartLemmas.{status_added}
use Rattle.plan_tables_definitions.proofs.calendars.push_date.Goals as goal

pub returns-in_ok-push-in-Some : goal.returns-in_ok-push-in-Some
returns-in_ok-push-in-Some c =
    let row : ℕ → DayStatus → Values = λ day status. Text c.args.name.now ∷ natural 1 ∷ natural day
    ∷ is_work status ∷ [] in
    status_added 3 (row c.args.day) (map.get c.args.calendar.now.dates c.args.day) c.in-Some.status
    c.in_ok-row-in-Some.row c.args.rows.now.items c.push.new.self.items (sym c.date_status.ensures ∙ c.in-Some.is)
    (c.in_ok-row-in-Some.ensures ∙ ap (λ n. row n c.in-Some.status) c.number.ensures.value)
    c.in_ok-push-in-Some.ensures.items
