use Rattle.std.proofs.Common.{sym}
use Rattle.test_planner.proofs.windows.predecessors_in.Goals as goal

-- the pair of the turn is shown
pub predecessor-requires : goal.predecessor-requires
predecessor-requires c = ((c.pairs_of_successor-pair-items.ensures.all c.pair-item.result).0
    (c.loop-pair.pair-index, c.loop-pair-test.true, sym c.pair-item.is)).0
