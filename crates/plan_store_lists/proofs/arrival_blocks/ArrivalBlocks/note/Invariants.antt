use Rattle.std.proofs.Common.{◌⊎◌, take}
use Rattle.std.specs.List.{Contains}
use Rattle.external_dependencies.specs.Nearest.{arrival_of}
use Rattle.external_dependencies.specs.declared.live.Arrival.{Arrival}
use Rattle.plan_store_lists.specs.Keyed.{HasKey}
use Rattle.plan_store_lists.proofs.arrival_blocks.ArrivalBlocks.note.Given as goal

-- the arrivals of the rows so far are noted
abbrev pub invariant-loop-x : goal.invariant-loop-x
invariant-loop-x g l = record {
  stay : (a : Arrival) → Contains l.fn.self a → Contains l.self a;
  come : (a : Arrival) → Contains l.self a → Contains l.fn.self a
      ⊎ HasKey (λ x. arrival_of (g.T.PlanRow.row_of x)) (take l.x-index l.rows) a;
  noted : (x : g.row.T.Denot) → Contains (take l.x-index l.rows) x
      → Contains l.self (arrival_of (g.T.PlanRow.row_of x));
}
