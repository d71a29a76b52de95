use Rattle.plan_files.proofs.NextLemmas.{bytes_live, bytes_rerun, finds, goes_on, holds_next, whole_life}
use Rattle.plan_files.proofs.next.next_run.Goals as goal

pub returns-clause-finds : goal.returns-clause-finds
returns-clause-finds c = finds c.tables_have_one_content.ensures

pub returns-clause-holds : goal.returns-clause-holds
returns-clause-holds c = holds_next

pub returns-clause-goes_on : goal.returns-clause-goes_on
returns-clause-goes_on c = goes_on c.tables_have_one_content.ensures

pub returns-clause-lives : goal.returns-clause-lives
returns-clause-lives c = bytes_live c.tables_have_one_content.ensures

pub returns-clause-whole_life : goal.returns-clause-whole_life
returns-clause-whole_life c = whole_life c.plan_life.ensures (bytes_live c.tables_have_one_content.ensures)

pub returns-clause-rerun : goal.returns-clause-rerun
returns-clause-rerun c = bytes_rerun c.tables_have_one_content.ensures c.file_life.ensures.rerun
