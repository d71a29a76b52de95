-- Seats in blocks: one for every 256 serials.
use Rattle.std.specs.Prelude.{ℕ}
use Rattle.std.specs.Ordering.{nat_cmp}
use Rattle.plan_store_lists.specs.Blocks.{AreBlocks}
use Rattle.plan_store_lists.specs.Seats.{seat_cmp, seat_group}
use Rattle.plan_store_lists.specs.declared.blocks.Blocks.{Blocks}
use Rattle.plan_store_lists.specs.declared.seats.Seat.{Seat}

-- these blocks are of seats
abbrev pub AreSeatBlocks : Blocks ℕ Seat → Type 0
AreSeatBlocks list = AreBlocks nat_cmp seat_cmp seat_group (λ (seat : Seat). seat) list.blocks.items
