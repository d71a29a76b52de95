use Rattle.std.proofs.Common.{take}
use Rattle.external_dependencies.proofs.PairLemmas.{AreAllPairs}
use Rattle.external_dependencies.proofs.pairs.resolve_some.Given as goal

-- the pairs of the rows so far
abbrev pub invariant-loop-placed : goal.invariant-loop-placed
invariant-loop-placed l = AreAllPairs l.rows (take l.placed-index l.asked) l.links l.pairs.items
