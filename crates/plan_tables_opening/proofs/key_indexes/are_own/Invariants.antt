use Rattle.std.specs.List.{AllWithin}
use Rattle.plan_tables_opening.specs.Indexes.{IsOwn}
use Rattle.plan_tables_opening.proofs.key_indexes.are_own.Given as goal

abbrev pub invariant-loop-index : goal.invariant-loop-index
invariant-loop-index l = AllWithin (IsOwn l.tables l.made) l.indexes 0 l.index-index
