use Rattle.std.proofs.Common.{refl}
use Rattle.plan_store.specs.Views.{with_hidden}
use Rattle.plan_store_lists.specs.Rows.{of_row}
use Rattle.plan_store.proofs.ViewLemmas.{lists_all, once_from_rows, size_listed, within_ltp}
use Rattle.plan_store.proofs.views.View.ltp.Goals as goal

pub returns-clause-rows : goal.returns-clause-rows
returns-clause-rows c =
    let view = c.args.self.now in
    lists_all of_row view.ltp.now.items view.ltp_rows

pub returns-clause-count : goal.returns-clause-count
returns-clause-count c hidden numbered =
    let view = c.args.self.now in
    let rows = view.ltp.now.items in
    size_listed of_row view.content.now.issued rows (once_from_rows of_row rows view.ltp_rows)
    (within_ltp (with_hidden hidden view).sets numbered rows view.ltp_rows (λ serial. refl))
