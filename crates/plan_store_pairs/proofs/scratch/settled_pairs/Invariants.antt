use Rattle.std.proofs.Common.{take}
use Rattle.plan_store_pairs.proofs.ScratchLemmas.{AreSoFar}
use Rattle.plan_store_pairs.proofs.scratch.settled_pairs.Given as goal

-- the pairs from scratch, and those that the rows so far hold
abbrev pub invariant-loop-placed : goal.invariant-loop-placed
invariant-loop-placed l = AreSoFar l.rows l.links l.before (take l.placed-index l.placed-items) l.pairs.items
