use Rattle.std.proofs.Common.{take}
use Rattle.external_dependencies.proofs.PairLemmas.{AreLeft}
use Rattle.external_dependencies.proofs.pairs.Pairs.without.Given as goal

-- those of the pairs so far that the others lack
abbrev pub invariant-loop-pair : goal.invariant-loop-pair
invariant-loop-pair l = AreLeft (take l.pair-index l.pair-items) l.others l.left.items
