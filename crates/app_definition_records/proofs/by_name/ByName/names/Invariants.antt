-- the names of the entries so far, before those that are left
use Rattle.app_definition_records.proofs.NameLemmas.{AreNamesBefore}
use Rattle.app_definition_records.proofs.by_name.ByName.names.Given as goal

abbrev pub invariant-loop-name : goal.invariant-loop-name
invariant-loop-name g l = AreNamesBefore l.self l.name-iterator l.names.items
