use Rattle.daily_planning.proofs.StatusLemmas.{leave_pairs}
use Rattle.daily_planning.proofs.laws.status_changes_leave_pairs.Goals as goal

pub returns : goal.returns
returns c = leave_pairs
