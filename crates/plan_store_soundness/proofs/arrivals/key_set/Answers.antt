use Rattle.std.proofs.Common.{rules}
use Rattle.std.specs.HashSet as bag
use Rattle.std.proofs.lemmas.Result.{IfOk-weaker}
use Rattle.plan_store_soundness.proofs.DistinctLemmas.{set_has}
use Rattle.plan_store_soundness.proofs.arrivals.key_set.Goals as goal

pub returns : goal.returns
returns c =
    IfOk-weaker c.collect.result (bag.IsFromIterResult _ c.args.keys.now) _
    (set_has c.key_order.ensures.equal c.args.keys.now) (search rules)
