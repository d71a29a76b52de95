use Rattle.std.proofs.Common.{sym, subst}
use Rattle.app_definition_records.proofs.ByNameLemmas.{IfOk-map}
use Rattle.planner_machine.specs.Statement.{decision_of}
use Rattle.plan_store.specs.Verdicts.{VerdictIs}
use Rattle.plan_store.specs.Views.{Shows}
use Rattle.daily_planning.specs.DailyPlans.{daily_need}
use Rattle.planner_cli.specs.Changes.{daily_change}
use Rattle.planner_cli.specs.Kinds.{count_of}
use Rattle.planner_cli.specs.Verdicts.{IsEnd}
use Rattle.planner_cli.proofs.daily_plans.DailyFunctionDecide.decide.Goals as goal

pub returns-in-Extend : goal.returns-in-Extend
returns-in-Extend c = IfOk-map c.extend.result _ _ (λ verdict h c' end shows sound.
    subst (λ f. VerdictIs (decision_of (daily_change f)) c' verdict) (sym c.in-Extend.is)
    (h c' (subst (λ o. Shows (daily_need o) c.args.view.now c')
    (subst (λ f. IsEnd c' f c.args.end) c.in-Extend.is end) shows) sound)) c.extend.ensures

pub returns-in-ExtendBy : goal.returns-in-ExtendBy
returns-in-ExtendBy c = IfOk-map c.extend_by.result _ _ (λ verdict h c' end shows sound.
    subst (λ f. VerdictIs (decision_of (daily_change f)) c' verdict) (sym c.in-ExtendBy.is)
    (h c.in-ExtendBy.days (count_of c.in-ExtendBy.count) c' (subst (λ f. IsEnd c' f c.args.end) c.in-ExtendBy.is end)
    shows sound)) c.extend_by.ensures

pub returns-in-Replan : goal.returns-in-Replan
returns-in-Replan c = IfOk-map c.replan.result _ _ (λ verdict h c' end shows sound.
    subst (λ f. VerdictIs (decision_of (daily_change f)) c' verdict) (sym c.in-Replan.is)
    (h c' (subst (λ o. Shows (daily_need o) c.args.view.now c')
    (subst (λ f. IsEnd c' f c.args.end) c.in-Replan.is end) shows) sound)) c.replan.ensures
