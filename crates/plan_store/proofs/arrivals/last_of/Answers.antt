use Rattle.std.proofs.Common.{◌-◌, length, arith}
use Rattle.plan_store.proofs.ArrivalLemmas.{last_greatest}
use Rattle.plan_store.proofs.arrivals.last_of.Goals as goal

pub returns : goal.returns
returns c keyed =
    let rows = c.args.rows.now in
    last_greatest rows keyed (length rows - 1) c.index-rows-count.result c.arrival.result (omega arith)
    c.index-rows-count.is c.arrival.ensures
