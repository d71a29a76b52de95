use Rattle.std.proofs.Common.{◌∙◌, Some, ap, refl, sym, subst}
use Rattle.app_definition_records.proofs.ByNameLemmas.{IfOk-map}
use Rattle.planner_machine.specs.Content.{Content}
use Rattle.daily_planning.specs.DailyPlans.{IsEndBy, plan_end_of}
use Rattle.planner_cli.specs.Verdicts.{IsEnd}
use Rattle.planner_cli.proofs.daily_plans.DailyFunctionDecide.end.Goals as goal

pub returns-in-Extend : goal.returns-in-Extend
returns-in-Extend c c' shows = subst (λ f. IsEnd c' f (Some c.in-Extend.to)) (sym c.in-Extend.is) refl

pub returns-in-ExtendBy : goal.returns-in-ExtendBy
returns-in-ExtendBy c = IfOk-map c.end_by.result _ _ (λ end h c' shows.
    subst (λ f. IsEnd c' f end) (sym c.in-ExtendBy.is)
    (subst (λ n. IsEndBy c' c.in-ExtendBy.days n end) c.count_of.ensures (h c' shows))) c.end_by.ensures

pub returns-in-Replan : goal.returns-in-Replan
returns-in-Replan c c' shows = subst (λ f. IsEnd c' f c.plan_end_of.result) (sym c.in-Replan.is)
    (c.plan_end_of.ensures ∙ ap plan_end_of c.bounds.ensures ∙ ap (λ (x : Content). plan_end_of x.sets.bounds) shows.is)
