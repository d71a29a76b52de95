use Rattle.planner_machine.proofs.ChangeLemmas.{change_once}
use Rattle.planner_machine.proofs.laws.one_answer.Goals as goal

pub returns : goal.returns
returns c = change_once
