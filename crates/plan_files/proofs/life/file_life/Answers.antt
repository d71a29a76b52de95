use Rattle.plan_files.proofs.FileRunLemmas.{files_live, files_rerun}
use Rattle.plan_files.proofs.life.file_life.Goals as goal

pub returns-clause-lives : goal.returns-clause-lives
returns-clause-lives c = files_live c.plan_life.ensures

pub returns-clause-rerun : goal.returns-clause-rerun
returns-clause-rerun c = files_rerun c.reruns.ensures.after_runs
