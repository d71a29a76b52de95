use Rattle.std.proofs.Common.{arith}
use Rattle.plan_periods.proofs.StepLemmas.{steps_meet}
use Rattle.plan_periods.proofs.places.steps_meeting.Goals as goal

pub returns : goal.returns
returns c =
    rw (c.saturating_sub.ensures, c.from-days.ensures, c.number-from.ensures.value, c.number-origin.ensures.value)
    (steps_meet c.args.origin c.args.interval c.args.from c.args.to c.min-latest.result c.requires.0 (omega (
      arith,
      c.requires.1,
    ))
    (omega (arith, c.if-to-from.false, c.number-from.ensures.value, c.number-to.ensures.value))
    (omega (arith, c.number-to.ensures.value, c.number-to.ensures.in_range))
    (omega (arith, c.min-latest.ensures, c.number.ensures.value, c.from-days.ensures, c.number-to.ensures.value))
    (omega (arith, c.if-latest-origin.false, c.number-origin.ensures.value)))
