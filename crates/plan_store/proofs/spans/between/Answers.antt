use Rattle.std.proofs.Common.{◌≤◌}
use Rattle.plan_store.proofs.SpanLemmas.{one_part}
use Rattle.plan_store.proofs.spans.between.Goals as goal

pub returns : goal.returns
returns g c keyed one x =
    let row_of = g.T.PlanRow.row_of in
    let rows = c.args.rows.now in
    let from = rw c.number.ensures.value at c.from_on.ensures in
    let part = from.all keyed one in
    let upto = c.up_to.ensures (from.keyed keyed)
    (one_part row_of rows c.from_on.result.now (λ y. c.args.first ≤ (row_of y).key.ia) part one) x in (
      (λ there. let both = upto.0 there in let on = (part x).0 both.0 in (on.0, on.1, both.1)),
      λ all. upto.1 ((part x).1 (all.0, all.1), all.2),
    )
