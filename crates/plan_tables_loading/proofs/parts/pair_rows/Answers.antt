use Rattle.plan_tables_loading.specs.Rowids.{pair_place}
use Rattle.plan_tables_loading.proofs.OrderLemmas.{moved_differ}
use Rattle.plan_tables_loading.proofs.TableLemmas.{at_some}
use Rattle.plan_tables_loading.proofs.parts.pair_rows.Goals as goal

pub returns-in-Some-clause-apart : goal.returns-in-Some-clause-apart
returns-in-Some-clause-apart c =
    let is = c.in-Some.is in
    moved_differ pair_place c.args.told.items c.in-Some.field-0.items
    (at_some c.in_order.result c.in-Some.field-0 _ is c.in_order.ensures.same)
    (at_some c.in_order.result c.in-Some.field-0 _ is c.in_order.ensures.order)
