use Rattle.plan_store_lists.specs.Blocks.{items_of}
use Rattle.plan_store_lists.proofs.RowBlockLemmas.{beside, blocks_as, blocks_from, keyed_as}
use Rattle.plan_store_lists.proofs.row_blocks.remove_rows.Goals as goal

pub remove_from-requires-clause-blocks : goal.remove_from-requires-clause-blocks
remove_from-requires-clause-blocks g c =
    blocks_as g.T.PlanRow.row_of g.T.Key.Ord.cmp g.T.Keyed.key_of g.met.T.PlanRow.ordered g.T.Grouped.group_of g.met.T.PlanRow.grouped
    c.args.list.now c.requires.blocks

pub remove_from-requires-clause-sorted : goal.remove_from-requires-clause-sorted
remove_from-requires-clause-sorted g c =
    keyed_as g.T.PlanRow.row_of g.T.Key.Ord.cmp g.T.Keyed.key_of g.met.T.PlanRow.ordered c.args.rows.now c.requires.sorted

pub returns-clause-blocks : goal.returns-clause-blocks
returns-clause-blocks g c =
    blocks_from g.T.PlanRow.row_of g.T.Key.Ord.cmp g.T.Keyed.key_of g.met.T.PlanRow.ordered g.T.Grouped.group_of g.met.T.PlanRow.grouped
    c.remove_from.new.list c.remove_from.ensures.blocks

pub returns-clause-removed : goal.returns-clause-removed
returns-clause-removed g c =
    beside g.T.PlanRow.row_of g.T.Key.Ord.cmp g.T.Keyed.key_of g.met.T.PlanRow.ordered g.met.T.Key.Ord.total g.met.T.Keyed.ties
    (items_of c.args.list.now) c.args.rows.now (items_of c.remove_from.new.list) c.remove_from.ensures.removed
