use Rattle.std.proofs.Common.{◌∙◌, sym}
use Rattle.plan_store_lists.proofs.RowBlockLemmas.{blocks_as}
use Rattle.plan_store_lists.proofs.row_blocks.rows_of.Goals as goal

pub of_group-requires : goal.of_group-requires
of_group-requires g c =
    blocks_as g.T.PlanRow.row_of g.T.Key.Ord.cmp g.T.Keyed.key_of g.met.T.PlanRow.ordered g.T.Grouped.group_of g.met.T.PlanRow.grouped
    c.args.list.now c.requires

pub returns-clause-all : goal.returns-clause-all
returns-clause-all g c x =
    let is = c.of_group.ensures.all x in
    let app = g.met.T.PlanRow.grouped x in (
      λ there. ((is.0 there).0, sym app ∙ (is.0 there).1),
      λ (there, same). is.1 (there, app ∙ same),
    )
