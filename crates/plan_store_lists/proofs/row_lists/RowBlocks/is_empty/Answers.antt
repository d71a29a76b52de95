use Rattle.std.proofs.Common.{◌≡◌, ◌↔◌, [], IsTrue, subst}
use Rattle.plan_store_lists.specs.RowLists.{RowList}
use Rattle.plan_store_lists.proofs.row_lists.RowBlocks.is_empty.Goals as goal

pub returns : goal.returns
returns g c =
    subst (λ (v : RowList g.row.T.Denot). IsTrue c.is_empty.result ↔ (v.items ≡ [])) c.self.view_is c.is_empty.ensures
