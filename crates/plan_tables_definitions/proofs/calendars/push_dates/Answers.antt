use Rattle.std.proofs.Common.{◌≡◌, ◌<◌, Some, arith, subst}
use Rattle.std.specs.Prelude.{slice_get}
use Rattle.plan_tables_definitions.specs.Adding.{Adds, IsOfPlace}
use Rattle.plan_tables_definitions.specs.Parts.{IsDateRow}
use Rattle.plan_tables_definitions.proofs.AddLemmas.{adds_step, get_at}
use Rattle.plan_tables_definitions.proofs.KeyLemmas.{dates_apart, pair_at}
use Rattle.plan_tables_definitions.proofs.calendars.push_dates.Goals as goal

pub loop-day-preserved : goal.loop-day-preserved
loop-day-preserved c =
    let at : slice_get c.args.days.now c.loop-day.day-index ≡ Some c.day-item.result =
    get_at c.args.days.now c.loop-day.day-index c.day-item.result c.loop-day-test.true c.day-item.is in
    adds_step 3 (λ _. IsDateRow c.args.name.now c.args.calendar.now)
    c.args.days.now c.loop-day.day-index c.day-item.result c.args.rows.now.items c.loop-day.rows.items
    c.push_date.new.rows.items at
    (λ place day under there v w. dates_apart day c.day-item.result
    (pair_at (λ a b. a < b) c.args.days.now place c.loop-day.day-index day c.day-item.result c.requires under there at)
    c.args.name.now v w c.args.calendar.now)
    c.loop-day.invariant c.in_ok-push_date.ensures

pub returns : goal.returns
returns c = subst (λ n. Adds 3 (IsOfPlace (λ _. IsDateRow c.args.name.now c.args.calendar.now)
    c.args.days.now n) c.args.rows.now.items c.loop-day.rows.items)
    (omega (arith, c.loop-day-test.false, c.loop-day.auto.day-index-end)) c.loop-day.invariant
