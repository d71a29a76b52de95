use Rattle.std.proofs.Common.{take}
use Rattle.plan_store_soundness.proofs.SeatLemmas.{IsTableSoFar}
use Rattle.plan_store_soundness.proofs.seats.table_of.Given as goal

abbrev pub invariant-loop-placed : goal.invariant-loop-placed
invariant-loop-placed l = IsTableSoFar l.issued (take l.placed-index l.all) l.table.items
