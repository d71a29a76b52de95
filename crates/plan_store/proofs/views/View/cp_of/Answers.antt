use Rattle.std.proofs.Common.{◌≡◌}
use Rattle.occurrences.specs.declared.place.CurrentRow.{CurrentRow}
use Rattle.plan_store_lists.specs.Rows.{of_current}
use Rattle.plan_store.proofs.ViewLemmas.{lists_part}
use Rattle.plan_store.proofs.views.View.cp_of.Goals as goal

pub returns : goal.returns
returns c =
    let view = c.args.self.now in
    let app = c.args.app.now in
    let is = c.of_app.ensures in
    lists_part of_current (λ (x : CurrentRow). x.row.key.app ≡ app) view.cp.now.items c.of_app.result.now view.cp_rows
    is.keyed is.all
