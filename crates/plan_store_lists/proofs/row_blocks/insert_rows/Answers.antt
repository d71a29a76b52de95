use Rattle.plan_store_lists.specs.Blocks.{items_of}
use Rattle.plan_store_lists.proofs.RowBlockLemmas.{blocks_as, blocks_from, keyed_as, lacks_as, room_as}
use Rattle.plan_store_lists.proofs.row_blocks.insert_rows.Goals as goal

pub insert_into-requires-clause-blocks : goal.insert_into-requires-clause-blocks
insert_into-requires-clause-blocks g c =
    blocks_as g.T.PlanRow.row_of g.T.Key.Ord.cmp g.T.Keyed.key_of g.met.T.PlanRow.ordered g.T.Grouped.group_of g.met.T.PlanRow.grouped
    c.args.list.now c.requires.blocks

pub insert_into-requires-clause-sorted : goal.insert_into-requires-clause-sorted
insert_into-requires-clause-sorted g c =
    keyed_as g.T.PlanRow.row_of g.T.Key.Ord.cmp g.T.Keyed.key_of g.met.T.PlanRow.ordered c.args.rows.now c.requires.sorted

pub insert_into-requires-clause-new : goal.insert_into-requires-clause-new
insert_into-requires-clause-new g c x there =
    lacks_as g.T.PlanRow.row_of g.T.Key.Ord.cmp g.T.Keyed.key_of g.met.T.PlanRow.ordered g.met.T.Key.Ord.total g.met.T.Keyed.ties
    (items_of c.args.list.now) x (c.requires.new x there)

pub insert_into-requires-clause-room : goal.insert_into-requires-clause-room
insert_into-requires-clause-room g c =
    room_as g.T.PlanRow.row_of g.T.Grouped.group_of g.met.T.PlanRow.grouped c.args.rows.now c.args.list.now
    c.requires.room

pub returns-clause-blocks : goal.returns-clause-blocks
returns-clause-blocks g c =
    blocks_from g.T.PlanRow.row_of g.T.Key.Ord.cmp g.T.Keyed.key_of g.met.T.PlanRow.ordered g.T.Grouped.group_of g.met.T.PlanRow.grouped
    c.insert_into.new.list c.insert_into.ensures.blocks
