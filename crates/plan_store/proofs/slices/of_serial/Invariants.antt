use Rattle.std.proofs.Common.{◌≢◌, take}
use Rattle.std.specs.List.{Contains}
use Rattle.plan_store_lists.specs.Seats.{seat_of}
use Rattle.plan_store.proofs.slices.of_serial.Given as goal

-- no row that has one of the first seats has the serial
abbrev pub invariant-loop-seat : goal.invariant-loop-seat
invariant-loop-seat g l = (x : g.row.T.Denot) → Contains l.list.items x → Contains (take l.seat-index l.found)
    (seat_of (g.T.PlanRow.row_of x)) → (g.T.PlanRow.row_of x).serial ≢ l.serial
