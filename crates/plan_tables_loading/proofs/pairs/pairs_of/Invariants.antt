use Rattle.std.proofs.Common.{◌≡◌, map, take}
use Rattle.plan_tables_loading.specs.Rowids.{pair_of}
use Rattle.plan_tables_loading.proofs.pairs.pairs_of.Given as goal

abbrev pub invariant-loop-row : goal.invariant-loop-row
invariant-loop-row l = l.pairs.items ≡ map pair_of (take l.row-index l.told)
