use Rattle.std.proofs.Common.{◌<◌, get_or, length, arith}
use Rattle.std.proofs.lemmas.List.{get_or_default}
use Rattle.plan_store.proofs.SpanLemmas.{first_least}
use Rattle.plan_store.proofs.spans.first_arrival.Goals as goal

pub returns : goal.returns
returns c keyed one =
    let rows = c.args.rows.now in
    let tested = c.index-rows-0.result in
    let some : 0 < length rows = omega arith in
    let first = get_or rows 0 tested in
    first_least rows keyed one first some (get_or_default rows 0 tested first some)
