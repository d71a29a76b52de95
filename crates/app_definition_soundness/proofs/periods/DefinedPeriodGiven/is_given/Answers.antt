use Rattle.std.proofs.Common.{subst, sym}
use Rattle.plan_periods.specs.Period.{IsSoundPeriod}
use Rattle.app_definition_soundness.specs.Values.{IsPeriodValue}
use Rattle.app_definition_soundness.proofs.PeriodRecords.{period_given, period_value}
use Rattle.app_definition_soundness.proofs.periods.DefinedPeriodGiven.is_given.Goals as goal

pub returns : goal.returns
returns c =
    let name = c.args.name.now in
    let period = c.args.self.now in
    let same = c.period.ensures.value in (
      λ yes. period_given name period (subst IsSoundPeriod same c.period.ensures.sound)
          (subst (IsPeriodValue name) same (c.is_period.ensures.0 yes)),
      λ given. c.is_period.ensures.1 (subst (IsPeriodValue name) (sym same) (period_value name period given)),
    )
