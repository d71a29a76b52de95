use Rattle.std.proofs.Common.{◌⊎◌, take}
use Rattle.std.specs.List.{Contains}
use Rattle.external_dependencies.specs.Nearest.{arrival_of}
use Rattle.external_dependencies.specs.declared.live.Arrival.{Arrival}
use Rattle.plan_store_lists.specs.Blocks.{items_in}
use Rattle.plan_store_lists.specs.Keyed.{HasKey}
use Rattle.plan_store_lists.proofs.arrival_blocks.ArrivalBlocks.note_all.Given as goal

-- the arrivals of the rows of the blocks so far are noted
abbrev pub invariant-loop-block : goal.invariant-loop-block
invariant-loop-block g l = record {
  stay : (a : Arrival) → Contains l.fn.self a → Contains l.self a;
  come : (a : Arrival) → Contains l.self a → Contains l.fn.self a
      ⊎ HasKey (λ x. arrival_of (g.T.PlanRow.row_of x)) (items_in (take l.block-index l.blocks)) a;
  noted : (x : g.row.T.Denot) → Contains (items_in (take l.block-index l.blocks)) x
      → Contains l.self (arrival_of (g.T.PlanRow.row_of x));
}
