use Rattle.std.proofs.Common.{refl}
use Rattle.plan_store.proofs.QueryLemmas.{asks_one}
use Rattle.plan_store.proofs.queries.add_query.Goals as goal

pub returns : goal.returns
returns c =
    rw c.in_ok-push.ensures.items (asks_one c.args.queries.now.items c.args.app.now c.args.moment
    (record { app = c.args.app.now; moment = c.args.moment }) refl refl)
