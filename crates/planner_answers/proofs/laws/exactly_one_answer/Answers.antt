use Rattle.planner_answers.proofs.Steps.{change_has_one, step_has_one}
use Rattle.planner_answers.proofs.laws.exactly_one_answer.Goals as goal

pub returns : goal.returns
returns c = record {
  changes = λ change. change_has_one change (c.one_answer.ensures change);
  statements = step_has_one c.streams.ensures.one_way;
}
