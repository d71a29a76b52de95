use Rattle.std.proofs.Common.{◌≡◌, pos, ◌≤ℤ◌, ◌∙◌, ap, refl, arith}
use Rattle.std.proofs.lemmas.Int.{ints}
use Rattle.jiff_core.specs.Date.{epoch_day}
use Rattle.work_calendars.specs.Day.{first_day, last_day}
use Rattle.work_calendars.proofs.SpellingFacts.{day_number-epoch_day}
use Rattle.work_calendars.proofs.days.Day.from_date.Goals as goal

pub returns-then-number-2-clause-valid : goal.returns-then-number-2-clause-valid
returns-then-number-2-clause-valid c =
    let a : pos first_day ≤ℤ c.to_unix_epoch_day-number.result = grind (arith, ints) in
    let b : c.to_unix_epoch_day-number.result ≤ℤ pos last_day = grind (arith, ints) in
    let e : c.to_unix_epoch_day-number.result ≡ epoch_day c.to_plain.result = omega (arith, ints) in (
      λ _. day_number-epoch_day c.args.date c.to_unix_epoch_day-number.result a b (e ∙ ap epoch_day c.to_plain.ensures),
      λ _. refl,
    )
