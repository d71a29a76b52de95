use Rattle.planner_machine.proofs.RefusedLemmas.{leaves}
use Rattle.planner_machine.proofs.laws.refusal_changes_nothing.Goals as goal

pub returns : goal.returns
returns c = leaves
