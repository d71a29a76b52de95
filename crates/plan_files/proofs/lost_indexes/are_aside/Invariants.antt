use Rattle.std.specs.List.{AllWithin}
use Rattle.plan_files.specs.LostIndexes.{IsAside}
use Rattle.plan_files.proofs.lost_indexes.are_aside.Given as goal

abbrev pub invariant-loop-table : goal.invariant-loop-table
invariant-loop-table l = AllWithin (IsAside l.index) l.tables 0 l.table-index
