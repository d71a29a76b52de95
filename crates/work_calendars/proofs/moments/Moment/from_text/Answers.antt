use Rattle.std.proofs.Common.{sym, subst, refl}
use Rattle.work_calendars.specs.Spelling.{SpellsDay, SpellsMinute, SpellsMoment}
use Rattle.work_calendars.proofs.SpellingFacts.{SpellsMoment-from_parts, SpellsMoment-one_moment, take-rest}
use Rattle.work_calendars.proofs.moments.Moment.from_text.Goals as goal

pub returns-clause-value : goal.returns-clause-value
returns-clause-value c =
    subst (λ t. SpellsMoment t c.new.result) c.as_bytes-text.ensures.value
    (SpellsMoment-from_parts c.as_bytes-text.result.now c.new.result (record {
      len = c.if-text-ne16.false;
      between = c.if-text-ne47.false;
      day = subst (SpellsDay _) (sym c.new.ensures.day) c.in_ok-day.ensures.value;
      minute = subst (SpellsMinute _) (sym c.new.ensures.minute) (rw take-rest at c.in_ok-minute.ensures.value);
    }))

pub returns-clause-valid : goal.returns-clause-valid
returns-clause-valid c = (λ _. (c.new.result, returns-clause-value c), λ _. refl)

pub returns-clause-only : goal.returns-clause-only
returns-clause-only c m s = SpellsMoment-one_moment _ m _ s (returns-clause-value c)
