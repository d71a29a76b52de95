use Rattle.planner_machine.proofs.NewEndLemmas.{by_end}
use Rattle.planner_machine.proofs.PlanLawLemmas.{daily_fates, days_keep_pairs, extend_keeps_pairs, replan_keeps_pairs}
use Rattle.planner_machine.proofs.laws.daily_plans.Goals as goal

pub returns : goal.returns
returns c = record {
  fates = daily_fates;
  by_days = by_end;
  extend_keeps_pairs = extend_keeps_pairs;
  days_keep_pairs = days_keep_pairs;
  replan_keeps_pairs = replan_keeps_pairs;
}
