use Rattle.std.proofs.Common.{take}
use Rattle.plan_store.specs.Views.{HoldsOfPart}
use Rattle.plan_store_pairs.specs.Gathering.{ShowsList}
use Rattle.plan_store_pairs.proofs.RowPairLemmas.{ArePairsBy}
use Rattle.plan_store_pairs.proofs.row_pairs.row_pairs_of.Given as goal

-- the pairs by the links so far
abbrev pub invariant-loop-link : goal.invariant-loop-link
invariant-loop-link l = HoldsOfPart l.view (λ c. ShowsList c l.view l.row
    → ArePairsBy c.sets l.row (take l.link-index l.link-items) l.own.items)
