use Rattle.std.proofs.Common.{◌≡◌, subst, sym, ◌∙◌}
use Rattle.std.specs.Prelude.{IfSome}
use Rattle.plan_periods.specs.Period.{IsSoundPeriod}
use Rattle.plan_tables_definitions.specs.DraftedPeriods.{entries_of}
use Rattle.plan_tables_definitions.proofs.PeriodLemmas.{same_period}
use Rattle.plan_tables_definitions.proofs.periods.defined_of.Goals as goal

pub returns-in-Some-clause-found : goal.returns-in-Some-clause-found
returns-in-Some-clause-found c p sound days same =
    let made = subst (λ o. IfSome o (λ q. entries_of q ≡ c.args.entries.now)) c.in-Some.is
    c.in_ok-period.ensures.made in
    let it = same_period c.in-Some.period p (made ∙ sym same) in
    c.ok.ensures.variant ∙ c.from_period.ensures.valid.1 (subst IsSoundPeriod (sym it) sound)
