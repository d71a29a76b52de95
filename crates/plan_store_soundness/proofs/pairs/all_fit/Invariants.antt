use Rattle.std.specs.List.{AllWithin}
use Rattle.external_dependencies.specs.declared.pairs.Pair.{Pair}
use Rattle.plan_store_soundness.specs.Pairs.{FitsRows, at_serial}
use Rattle.plan_store_soundness.proofs.pairs.all_fit.Given as goal

abbrev pub invariant-loop-pair : goal.invariant-loop-pair
invariant-loop-pair l = AllWithin (λ (pair : Pair). FitsRows (at_serial l.table pair.successor)
    (at_serial l.table pair.predecessor)) l.pairs 0 l.pair-index
