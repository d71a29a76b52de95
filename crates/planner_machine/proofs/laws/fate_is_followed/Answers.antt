use Rattle.planner_machine.proofs.ChangeLemmas.{change_follows}
use Rattle.planner_machine.proofs.laws.fate_is_followed.Goals as goal

pub returns : goal.returns
returns c = change_follows
