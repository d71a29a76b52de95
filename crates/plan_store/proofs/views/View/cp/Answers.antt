use Rattle.std.proofs.Common.{refl}
use Rattle.plan_store.specs.Views.{with_hidden}
use Rattle.plan_store_lists.specs.Rows.{of_current}
use Rattle.plan_store.proofs.ViewLemmas.{lists_all, once_from_rows, size_listed, within_cp}
use Rattle.plan_store.proofs.views.View.cp.Goals as goal

pub returns-clause-rows : goal.returns-clause-rows
returns-clause-rows c =
    let view = c.args.self.now in
    lists_all of_current view.cp.now.items view.cp_rows

pub returns-clause-count : goal.returns-clause-count
returns-clause-count c hidden numbered =
    let view = c.args.self.now in
    let rows = view.cp.now.items in
    size_listed of_current view.content.now.issued rows (once_from_rows of_current rows view.cp_rows)
    (within_cp (with_hidden hidden view).sets numbered rows view.cp_rows (λ serial. refl))
