use Rattle.std.proofs.Common.{◌≡◌, sym, subst, ◌∙◌}
use Rattle.work_calendars.specs.Spelling.{SpellsDay}
use Rattle.work_calendars.proofs.SpellingFacts.{impossible, same_text, no_same_text, same_natural, parts_read}
use Rattle.work_calendars.proofs.SpellingFacts.{IsDate-parts, epoch_day-parts, SpellsDay-one_day}
use Rattle.work_calendars.proofs.days.Day.from_bytes.Goals as goal

pub returns-in_err-date-clause-valid : goal.returns-in_err-date-clause-valid
returns-in_err-date-clause-valid c = rw c.from_residual.ensures (
  impossible,
  λ s. c.in_err-date.ensures.valid.1 (IsDate-parts s.1.date _ _ _ _ (parts_read _ s.0 _ _ _ _ s.1 (record {
    century_is = c.two_digits_value.ensures.value;
    rest_is = c.two_digits_value-2.ensures.value;
    month_is = c.two_digits_value-month.ensures.value;
    day_is = c.two_digits_value-day.ensures.value;
  }))),
)

pub returns-in_err-day-clause-valid : goal.returns-in_err-day-clause-valid
returns-in_err-day-clause-valid c =
    let ymd = c.in_ok-date.ensures.value in rw c.from_residual-in_err-day.ensures (
      impossible,
      λ s.
          let parts = parts_read _ s.0 _ _ _ _ s.1 (record {
            century_is = c.two_digits_value.ensures.value;
            rest_is = c.two_digits_value-2.ensures.value;
            month_is = c.two_digits_value-month.ensures.value;
            day_is = c.two_digits_value-day.ensures.value;
          }) in
          c.in_err-day.ensures.valid.1 (
            s.0,
            s.1.in_range,
            epoch_day-parts
                s.1.date c.in_ok-date.date _ _ _ _ parts ymd ∙ s.1.number,
          ),
    )

pub returns-then-eq-clause-only : goal.returns-then-eq-clause-only
returns-then-eq-clause-only c d s =
    let same = same_text c.args.text.now c.write_text.new.text c.if-eq.ensures in
    SpellsDay-one_day _ d _ s (subst (λ t. SpellsDay t c.in_ok-day.day) (sym same) c.write_text.ensures.spelled)

pub returns-else-eq-clause-valid : goal.returns-else-eq-clause-valid
returns-else-eq-clause-valid c =
    let ymd = c.in_ok-date.ensures.value in
    let day = c.in_ok-day.ensures.value in (
      impossible,
      λ s.
          let parts = parts_read _ s.0 _ _ _ _ s.1 (record {
            century_is = c.two_digits_value.ensures.value;
            rest_is = c.two_digits_value-2.ensures.value;
            month_is = c.two_digits_value-month.ensures.value;
            day_is = c.two_digits_value-day.ensures.value;
          }) in
          let number = epoch_day-parts s.1.date c.in_ok-date.date _ _ _ _ parts ymd ∙ s.1.number in
          let same : s.0 ≡ c.in_ok-day.day = same_natural s.0 c.in_ok-day.day (sym number ∙ day.1) in
          no_same_text c.args.text.now c.write_text.new.text c.if-eq.ensures
          (c.write_text.ensures.only _ (subst (SpellsDay c.args.text.now) same s.1)),
    )
