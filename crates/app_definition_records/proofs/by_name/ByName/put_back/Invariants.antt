-- what is left to be put back
use Rattle.app_definition_records.proofs.ReplacedLemmas.{AreToPutBack}
use Rattle.app_definition_records.proofs.by_name.ByName.put_back.Given as goal

abbrev pub invariant-loop-name : goal.invariant-loop-name
invariant-loop-name g l = AreToPutBack l.fn.was l.initial.self l.name-iterator l.self
