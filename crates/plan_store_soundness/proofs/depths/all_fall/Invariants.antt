use Rattle.std.specs.List.{AllWithin}
use Rattle.plan_store_soundness.specs.Closed.{FallsBy}
use Rattle.plan_store_soundness.proofs.depths.all_fall.Given as goal

abbrev pub invariant-loop-pair : goal.invariant-loop-pair
invariant-loop-pair l = AllWithin (FallsBy l.numbers) l.pairs 0 l.pair-index
