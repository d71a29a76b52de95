use Rattle.planner_machine.specs.Statement.{decision_of}
use Rattle.planner_cli.specs.Changes.{plan_change}
use Rattle.planner_cli.proofs.ServeLemmas.{early_verdict}
use Rattle.planner_cli.proofs.plans.PlanFunctionDecide.early.Goals as goal

pub returns : goal.returns
returns c = early_verdict (decision_of (plan_change c.args.self.now)) c.args.view.now c.plan_refusal.result
    c.plan_refusal.ensures
