use Rattle.std.proofs.lemmas.Result.{IfOk-weaker}
use Rattle.plan_store.proofs.WindowLemmas.{lists_early}
use Rattle.plan_store.proofs.views.View.ltp_before.Goals as goal

pub returns : goal.returns
returns c =
    let view = c.args.self.now in
    IfOk-weaker c.arriving_before.result _ _
    (λ found is. lists_early c.args.moment view.ltp.now.items view.ltp_rows found.items is) c.arriving_before.ensures
