use Rattle.plan_files.proofs.RefusedLemmas.{if_some}
use Rattle.opcplan.proofs.over_file.run_over_file.Goals as goal

pub returns-in-Err-clause-asked : goal.returns-in-Err-clause-asked
returns-in-Err-clause-asked g c = if_some c.in-Err.left.2 _ _ (λ e h. h.1) c.in-Err.ensures.refused.told
