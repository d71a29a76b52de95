-- what stood under the names before those that are left
use Rattle.app_definition_records.proofs.ReplacedLemmas.{AreNoted}
use Rattle.app_definition_records.proofs.by_name.ByName.replaced_by.Given as goal

abbrev pub invariant-loop-name : goal.invariant-loop-name
invariant-loop-name g l = AreNoted l.self l.more l.name-iterator l.was
