use Rattle.std.proofs.Common.{refl}
use Rattle.plan_store.specs.Views.{shown}
use Rattle.plan_store.proofs.ViewLemmas.{current_row}
use Rattle.plan_store.proofs.views.View.cp_row.Goals as goal

pub returns : goal.returns
returns c =
    let view = c.args.self.now in
    current_row c.args.key.now view.cp.now.items c.with_key.result.now view.cp_rows c.with_key.ensures.all
    c.first_live.result c.first_live.ensures (shown view).sets (λ serial. refl)
