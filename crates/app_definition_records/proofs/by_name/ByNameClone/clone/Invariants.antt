-- the entries so far and those that are left are all
use Rattle.std.proofs.Common.{◌++◌}
use Rattle.app_definition_records.specs.ByName.{AreEntriesOf}
use Rattle.app_definition_records.proofs.by_name.ByNameClone.clone.Given as goal

abbrev pub invariant-loop-name : goal.invariant-loop-name
invariant-loop-name g l = AreEntriesOf (l.by_name.entries ++ l.name-iterator) l.self
