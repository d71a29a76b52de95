use Rattle.plan_store_lists.specs.Rows.{of_row}
use Rattle.plan_store.proofs.ViewLemmas.{lists_all}
use Rattle.plan_store.proofs.views.View.lasts.Goals as goal

pub returns : goal.returns
returns c =
    let view = c.args.self.now in
    lists_all of_row view.lasts.now view.last_rows
