use Rattle.planner_machine.proofs.RerunLemmas.{as_each_run, as_one_run}
use Rattle.planner_machine.proofs.laws.reruns.Goals as goal

pub returns : goal.returns
returns c = record { one_run = as_one_run; each_run = as_each_run }
