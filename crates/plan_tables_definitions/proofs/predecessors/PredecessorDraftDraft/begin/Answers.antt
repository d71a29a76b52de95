use Rattle.plan_tables_definitions.proofs.PredecessorLemmas.{no_predecessor}
use Rattle.plan_tables_definitions.proofs.predecessors.PredecessorDraftDraft.begin.Goals as goal

pub returns : goal.returns
returns c name v is = no_predecessor name c.new.result v c.new.ensures is
