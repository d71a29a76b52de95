use Rattle.std.specs.List.{AllWithin}
use Rattle.plan_files.specs.LostIndexes.{IsKept}
use Rattle.plan_files.proofs.lost_indexes.are_kept.Given as goal

abbrev pub invariant-loop-index : goal.invariant-loop-index
invariant-loop-index l = AllWithin (IsKept l.tables) l.indexes 0 l.index-index
