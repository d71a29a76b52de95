use Rattle.plan_store_lists.proofs.RowBlockLemmas.{blocks_as, blocks_from, keyed_as, room_from}
use Rattle.plan_store_lists.proofs.row_blocks.reserve_rows.Goals as goal

pub reserve_for-requires-clause-blocks : goal.reserve_for-requires-clause-blocks
reserve_for-requires-clause-blocks g c =
    blocks_as g.T.PlanRow.row_of g.T.Key.Ord.cmp g.T.Keyed.key_of g.met.T.PlanRow.ordered g.T.Grouped.group_of g.met.T.PlanRow.grouped
    c.args.list.now c.requires.blocks

pub reserve_for-requires-clause-sorted : goal.reserve_for-requires-clause-sorted
reserve_for-requires-clause-sorted g c =
    keyed_as g.T.PlanRow.row_of g.T.Key.Ord.cmp g.T.Keyed.key_of g.met.T.PlanRow.ordered c.args.rows.now c.requires.sorted

pub returns-clause-blocks : goal.returns-clause-blocks
returns-clause-blocks g c =
    blocks_from g.T.PlanRow.row_of g.T.Key.Ord.cmp g.T.Keyed.key_of g.met.T.PlanRow.ordered g.T.Grouped.group_of g.met.T.PlanRow.grouped
    c.reserve_for.new.list c.reserve_for.ensures.blocks

pub returns-clause-room : goal.returns-clause-room
returns-clause-room g c =
    room_from g.T.PlanRow.row_of g.T.Grouped.group_of g.met.T.PlanRow.grouped c.args.rows.now c.reserve_for.new.list
    c.reserve_for.result c.reserve_for.ensures.room
