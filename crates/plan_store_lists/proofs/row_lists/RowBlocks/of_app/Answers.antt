use Rattle.std.proofs.Common.{◌≡◌, ◌↔◌, subst}
use Rattle.std.specs.List.{Contains}
use Rattle.plan_store_lists.specs.RowLists.{RowList}
use Rattle.plan_store_lists.proofs.row_lists.RowBlocks.of_app.Goals as goal

pub returns-clause-all : goal.returns-clause-all
returns-clause-all g c =
    subst (λ (v : RowList g.row.T.Denot). (x : g.row.T.Denot) → Contains c.rows_of.result.now x
    ↔ (Contains v.items x × ((g.T.PlanRow.row_of x).key.app ≡ c.args.app.now))) c.self.view_is c.rows_of.ensures.all
