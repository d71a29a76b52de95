use Rattle.std.proofs.Common.{refl}
use Rattle.plan_store.specs.Views.{shown}
use Rattle.plan_store.proofs.ViewLemmas.{planned_row}
use Rattle.plan_store.proofs.views.View.ltp_row.Goals as goal

pub returns : goal.returns
returns c =
    let view = c.args.self.now in
    planned_row c.args.key.now view.ltp.now.items c.with_key.result.now view.ltp_rows c.with_key.ensures.all
    c.first_of.result c.first_of.ensures (shown view).sets (λ serial. refl)
