use Rattle.std.proofs.Common.{inl, inr, subst, sym}
use Rattle.planner_machine.specs.Statement.{decision_of}
use Rattle.planner_cli_stream.specs.declared.statements.PlanFunction.{PlanFunction}
use Rattle.long_term_plan.specs.Early.{IsRefusedEarly}
use Rattle.planner_cli.specs.Changes.{plan_change}
use Rattle.planner_cli.proofs.plans.plan_refusal.Goals as goal

pub returns-in-ModifyAll : goal.returns-in-ModifyAll
returns-in-ModifyAll c content shows = elim c.in-ModifyAll.is [
  | inl all ↦
      subst (λ (f : PlanFunction). IsRefusedEarly (decision_of (plan_change f)) content c.modify_refusal.result) (sym all)
      (c.modify_refusal.ensures.all content shows)
  | inr (app, one) ↦
      subst (λ (f : PlanFunction). IsRefusedEarly (decision_of (plan_change f)) content c.modify_refusal.result) (sym one)
      (c.modify_refusal.ensures.one app content shows)
]
