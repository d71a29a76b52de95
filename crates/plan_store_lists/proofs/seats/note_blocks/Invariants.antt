use Rattle.std.proofs.Common.{take}
use Rattle.std.specs.List.{Contains}
use Rattle.plan_store_lists.specs.Blocks.{items_in}
use Rattle.plan_store_lists.specs.Seats.{HasSeats}
use Rattle.plan_store_lists.specs.declared.seats.Seat.{Seat}
use Rattle.plan_store_lists.proofs.seats.note_blocks.Given as goal

-- the seats of the blocks so far are noted
abbrev pub invariant-loop-block : goal.invariant-loop-block
invariant-loop-block g l = record {
  stay : (seat : Seat) → Contains l.fn.seats seat → Contains l.seats seat;
  noted : HasSeats g.T.PlanRow.row_of (items_in (take l.block-index l.list.blocks.items)) l.seats;
}
