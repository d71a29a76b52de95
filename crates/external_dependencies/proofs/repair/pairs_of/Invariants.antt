use Rattle.std.proofs.Common.{◌↔◌, Contains, take}
use Rattle.external_dependencies.specs.declared.pairs.Pair.{Pair}
use Rattle.external_dependencies.proofs.repair.pairs_of.Given as goal

-- the pairs of the successors so far
abbrev pub invariant-loop-serial : goal.invariant-loop-serial
invariant-loop-serial l = (pair : Pair) → Contains l.had.items pair
    ↔ (Contains l.pairs pair × Contains (take l.serial-index l.serials) pair.successor)
