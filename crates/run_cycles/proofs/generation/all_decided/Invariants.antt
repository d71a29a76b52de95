use Rattle.run_cycles.specs.Naming.{IsDecidedBefore}
use Rattle.run_cycles.specs.Occurrence.{ListsInOrder}
use Rattle.run_cycles.proofs.generation.all_decided.Given as goal

abbrev pub invariant-loop-place : goal.invariant-loop-place
invariant-loop-place l = ListsInOrder (IsDecidedBefore l.namings l.place) l.list.items
