use Rattle.std.proofs.Common.{◌≡◌}
use Rattle.occurrences.specs.declared.row.Row.{Row}
use Rattle.plan_store_lists.specs.Rows.{of_row}
use Rattle.plan_store.proofs.ViewLemmas.{lists_part}
use Rattle.plan_store.proofs.views.View.ltp_of.Goals as goal

pub returns : goal.returns
returns c =
    let view = c.args.self.now in
    let app = c.args.app.now in
    let is = c.of_app.ensures in
    lists_part of_row (λ (x : Row). x.key.app ≡ app) view.ltp.now.items c.of_app.result.now view.ltp_rows
    is.keyed is.all
