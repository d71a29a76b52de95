use Rattle.planner_machine.proofs.TrialLemmas.{answers, leaves}
use Rattle.planner_machine.proofs.laws.trials.Goals as goal

pub returns : goal.returns
returns c = record { leaves = leaves; answers = answers }
