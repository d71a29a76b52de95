use Rattle.std.proofs.Common.{◌≡◌, pos, refl, ap, ◌∙◌, arith}
use Rattle.std.proofs.lemmas.Int.{ints}
use Rattle.jiff_core.specs.Date.{epoch_day}
use Rattle.work_calendars.proofs.SpellingFacts.{SpellsDay-one_text}
use Rattle.work_calendars.proofs.days.Day.write_text.Goals as goal

pub returns-clause-spelled : goal.returns-clause-spelled
returns-clause-spelled c =
    let range = c.to_plain-date.result.year_in in
    let year : c.to_plain-date.result.year ≡ pos c.natural-year.result = omega (arith, ints) in
    rw (
      c.digit.ensures,
      c.digit-2.ensures,
      c.digit-3.ensures,
      c.digit-4.ensures,
      c.digit-5.ensures,
      c.digit-6.ensures,
      c.digit-7.ensures,
      c.digit-8.ensures,
    ) (record {
      date = c.to_plain-date.result;
      year = c.natural-year.result;
      is_year = year;
      number = ap epoch_day c.to_plain-date.ensures ∙ c.to_date.ensures.value;
      in_range = c.to_date.ensures.in_range;
      text_is = refl;
    })

pub returns-clause-only : goal.returns-clause-only
returns-clause-only c s spelled =
    SpellsDay-one_text s _ c.args.self spelled (returns-clause-spelled c)
