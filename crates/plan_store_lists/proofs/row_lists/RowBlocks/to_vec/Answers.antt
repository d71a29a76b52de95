use Rattle.std.proofs.Common.{◌≡◌, IfOk, subst}
use Rattle.plan_store_lists.specs.RowLists.{RowList}
use Rattle.plan_store_lists.proofs.row_lists.RowBlocks.to_vec.Goals as goal

pub returns : goal.returns
returns g c =
    subst (λ (v : RowList g.row.T.Denot). IfOk c.all_of.result (λ rows. rows.items ≡ v.items)) c.self.view_is
    c.all_of.ensures
