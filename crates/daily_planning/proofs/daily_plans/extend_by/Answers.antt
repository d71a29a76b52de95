use Rattle.std.proofs.Common.{refl, subst}
use Rattle.app_definition_records.proofs.ByNameLemmas.{IfOk-map}
use Rattle.plan_store.specs.Views.{Shows}
use Rattle.daily_planning.specs.DailyPlans.{IsEndBy, daily_need}
use Rattle.daily_planning.proofs.DailyByLemmas.{to_end}
use Rattle.daily_planning.proofs.daily_plans.extend_by.Goals as goal

pub returns-in-Some : goal.returns-in-Some
returns-in-Some c = IfOk-map c.extend.result _ _ (λ verdict h days count c' end shows sound.
    to_end c' days count c.daily_plans.ensures.by_days c.in-Some.to (subst (IsEndBy c' days count) c.in-Some.is end)
    verdict (h c' (subst (λ o. Shows (daily_need o) c.args.view.now c') c.in-Some.is shows) sound)) c.extend.ensures

pub returns-in-None : goal.returns-in-None
returns-in-None c days count c' end shows sound = (
  c.without_end.ensures days count c' (subst (IsEndBy c' days count) c.in-None.is end)
      (subst (λ o. Shows (daily_need o) c.args.view.now c') c.in-None.is shows),
  refl,
)
