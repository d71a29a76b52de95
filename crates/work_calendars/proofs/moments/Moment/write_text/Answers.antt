use Rattle.std.proofs.Common.{◌≡◌, ◌∙◌, refl, sym, ap, subst, length, drop, arith, length-drop}
use Rattle.work_calendars.specs.Spelling.{SpellsMoment}
use Rattle.work_calendars.proofs.SpellingFacts.{SpellsMoment-one_text, moment_written}
use Rattle.work_calendars.proofs.moments.Moment.write_text.Goals as goal

pub returns-clause-spelled : goal.returns-clause-spelled
returns-clause-spelled c =
    let ten : length c.copy_from_slice.new.self ≡ 10 = ap length c.copy_from_slice.ensures.after ∙
    c.write_text.array_long in
    let six : length (drop 10 c.args.text.now) ≡ 6 = omega (arith, length-drop 10 c.args.text.now) in
    let e = moment_written c.copy_from_slice.new.self (drop 10 c.args.text.now) c.copy_from_slice-2.new.self ten six in
    subst (λ t. SpellsMoment t c.args.self) (sym e) (record {
      day_text = c.copy_from_slice.new.self;
      minute_text = c.copy_from_slice-2.new.self;
      spells_day = rw (c.copy_from_slice.ensures.after, ← c.day.ensures.value) c.write_text.ensures.spelled;
      spells_minute = rw (c.copy_from_slice-2.ensures.after, ← c.minute.ensures.value) c.write_text-2.ensures.spelled;
      text_is = refl;
    })

pub returns-clause-only : goal.returns-clause-only
returns-clause-only c s spelled =
    SpellsMoment-one_text s _ c.args.self spelled (returns-clause-spelled c)
