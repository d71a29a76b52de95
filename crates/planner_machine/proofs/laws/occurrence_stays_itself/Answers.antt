use Rattle.planner_machine.proofs.ChangeLemmas.{keeps_itself}
use Rattle.planner_machine.proofs.laws.occurrence_stays_itself.Goals as goal

pub returns : goal.returns
returns c = keeps_itself
