use Rattle.plan_store_lists.specs.Blocks.{items_of}
use Rattle.plan_store_lists.proofs.RowBlockLemmas.{apart_as, blocks_as, blocks_from, has_as, written_as}
use Rattle.plan_store_lists.proofs.row_blocks.replace_rows.Goals as goal

pub replace_in-requires-clause-blocks : goal.replace_in-requires-clause-blocks
replace_in-requires-clause-blocks g c =
    blocks_as g.T.PlanRow.row_of g.T.Key.Ord.cmp g.T.Keyed.key_of g.met.T.PlanRow.ordered g.T.Grouped.group_of g.met.T.PlanRow.grouped
    c.args.list.now c.requires.blocks

pub replace_in-requires-clause-apart : goal.replace_in-requires-clause-apart
replace_in-requires-clause-apart g c =
    apart_as g.T.PlanRow.row_of g.T.Key.Ord.cmp g.T.Keyed.key_of g.met.T.PlanRow.ordered g.met.T.Key.Ord.total g.met.T.Keyed.ties
    c.args.rows.now c.requires.apart

pub replace_in-requires-clause-stand : goal.replace_in-requires-clause-stand
replace_in-requires-clause-stand g c x there =
    has_as g.T.PlanRow.row_of g.T.Key.Ord.cmp g.T.Keyed.key_of g.met.T.PlanRow.ordered g.met.T.Key.Ord.total g.met.T.Keyed.ties
    (items_of c.args.list.now) x (c.requires.stand x there)

pub returns-clause-blocks : goal.returns-clause-blocks
returns-clause-blocks g c =
    blocks_from g.T.PlanRow.row_of g.T.Key.Ord.cmp g.T.Keyed.key_of g.met.T.PlanRow.ordered g.T.Grouped.group_of g.met.T.PlanRow.grouped
    c.replace_in.new.list c.replace_in.ensures.blocks

pub returns-clause-replaced : goal.returns-clause-replaced
returns-clause-replaced g c =
    written_as g.T.PlanRow.row_of g.T.Key.Ord.cmp g.T.Keyed.key_of g.met.T.PlanRow.ordered g.met.T.Key.Ord.total g.met.T.Keyed.ties
    (items_of c.args.list.now) c.args.rows.now (items_of c.replace_in.new.list) c.replace_in.ensures.replaced
