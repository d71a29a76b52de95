use Rattle.plan_files.proofs.NextLemmas.{carries_on, passes_on}
use Rattle.plan_files.proofs.next.carries_on.Goals as goal

pub returns-clause-runs : goal.returns-clause-runs
returns-clause-runs g c = carries_on g.D.Disk

pub returns-clause-refused : goal.returns-clause-refused
returns-clause-refused g c = passes_on g.D.Disk c.tables_have_one_content.ensures
