use Rattle.std.proofs.Common.{◌++◌, rules}
use Rattle.std.proofs.lemmas.Iterator.{YieldsList-from_map, YieldsList-from_slice}
use Rattle.std.proofs.lemmas.Iterator.Consumers.{YieldsList-at, YieldsList-from_chain}
use Rattle.plan_store.proofs.FittingLemmas.{all_once, serial_of}
use Rattle.plan_store.proofs.fitting.have_each_once.Goals as goal

pub returns : goal.returns
returns g c =
    let row_of = g.T.PlanRow.row_of in
    all_once row_of c.all_unique.result (c.args.rows.now ++ c.args.more.now) c.all_unique.ensures.runs
    (YieldsList-from_map _ (serial_of row_of) (YieldsList-at c.map.ensures.source
    (YieldsList-from_chain (YieldsList-from_slice c.args.rows.now (cc)) (YieldsList-from_slice c.args.more.now (cc))
    (cc) (cc))) c.map.ensures.closure (λ x r q k. search rules))
