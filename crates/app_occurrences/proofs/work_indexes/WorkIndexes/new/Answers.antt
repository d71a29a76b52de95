use Rattle.app_occurrences.proofs.NamedLemmas.{indexes_none}
use Rattle.app_occurrences.proofs.work_indexes.WorkIndexes.new.Goals as goal

pub returns-clause-indexes : goal.returns-clause-indexes
returns-clause-indexes c = λ all. indexes_none all c.new.result c.new.ensures
