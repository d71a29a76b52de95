use Rattle.std.proofs.Common.{subst}
use Rattle.external_dependencies.specs.Arrival.{arrival_cmp}
use Rattle.external_dependencies.specs.Nearest.{arrival_of}
use Rattle.plan_store_lists.specs.Keyed.{IsKeyed}
use Rattle.plan_store_lists.specs.RowLists.{RowList}
use Rattle.plan_store_lists.proofs.RowBlockLemmas.{rows_keyed}
use Rattle.plan_store_lists.proofs.row_lists.RowBlocks.rise.Goals as goal

pub returns : goal.returns
returns g c =
    let row_of = g.T.PlanRow.row_of in
    subst (λ (v : RowList g.row.T.Denot). IsKeyed arrival_cmp (λ x. arrival_of (row_of x)) v.items) c.self.view_is
    (rows_keyed row_of c.self.inside.blocks c.self.invariant.blocks)
