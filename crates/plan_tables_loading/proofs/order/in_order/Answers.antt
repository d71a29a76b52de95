use Rattle.std.proofs.Common.{subst, sym}
use Rattle.plan_tables_loading.specs.Order.{NumbersRise}
use Rattle.plan_tables_loading.proofs.OrderLemmas.{apart_rise}
use Rattle.plan_tables_loading.proofs.order.in_order.Goals as goal

pub returns-else-numbers_rise-clause-refused : goal.returns-else-numbers_rise-clause-refused
returns-else-numbers_rise-clause-refused g c none apart =
    let sorted = c.sort_by_number.ensures in
    let rise = apart_rise g.X.Numbered.number_of c.args.xs.items c.sort_by_number.new.xs.items sorted.same sorted.sorted
    apart in
    let yes = c.numbers_rise.ensures.1 (subst (NumbersRise g.X.Numbered.number_of) (sym c.deref.ensures.value) rise) in
    let no = c.if-numbers_rise.false in
    cc
