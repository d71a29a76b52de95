use Rattle.plan_tables_definitions.specs.Parts.{IsWeekdayRow}
use Rattle.plan_tables_definitions.proofs.AddLemmas.{first_more}
use Rattle.plan_tables_definitions.proofs.KeyLemmas.{weekdays_apart}
use Rattle.plan_tables_definitions.proofs.calendars.push_weekdays.Goals as goal

pub loop-place-preserved : goal.loop-place-preserved
loop-place-preserved c = first_more 3 (IsWeekdayRow c.args.name.now c.args.calendar.now) c.loop-place.place
    c.args.rows.now.items c.loop-place.rows.items c.push_weekday.new.rows.items
    (λ k under v w. weekdays_apart k c.loop-place.place under c.args.name.now v w c.args.calendar.now)
    c.loop-place.invariant
    c.in_ok-push_weekday.ensures
