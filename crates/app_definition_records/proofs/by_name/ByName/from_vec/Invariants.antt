-- the entries that were put in, and those that are left
use Rattle.std.specs.Vec.Iter.{into_iter_items, into_iter_len}
use Rattle.app_definition_records.proofs.EntryLemmas.{AreLeft}
use Rattle.app_definition_records.proofs.by_name.ByName.from_vec.Given as goal

abbrev pub invariant-loop-name : goal.invariant-loop-name
invariant-loop-name g l = AreLeft l.fn.entries.items l.by_name.entries (into_iter_items l.name-iterator)
    (into_iter_len l.name-iterator)
