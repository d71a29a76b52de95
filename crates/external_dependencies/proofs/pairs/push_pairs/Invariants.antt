use Rattle.std.proofs.Common.{take}
use Rattle.external_dependencies.proofs.PairLemmas.{ArePairs}
use Rattle.external_dependencies.proofs.pairs.push_pairs.Given as goal

-- the pairs by the links so far
abbrev pub invariant-loop-link : goal.invariant-loop-link
invariant-loop-link l = ArePairs l.live l.row (take l.link-index l.list) l.fn.pairs.items l.pairs.items
