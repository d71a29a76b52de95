use Rattle.plan_tables_constraints.proofs.ChangeTaken.{fitting_is_taken}
use Rattle.plan_tables_constraints.proofs.accepting.fitting_changes_are_accepted.Goals as goal

pub returns : goal.returns
returns c = fitting_is_taken
