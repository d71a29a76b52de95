use Rattle.sqlite.specs.Held.{state}
use Rattle.plan_tables_schema.specs.Rows.{tables_of}
use Rattle.plan_tables_loading.proofs.OrderLemmas.{items_apart, rise_rowids}
use Rattle.plan_tables_loading.proofs.TableLemmas.{at_some, if_both, if_some, listed_moved, shows_moved}
use Rattle.plan_tables_loading.proofs.tables.read_in_order.Goals as goal

pub returns-in-Some-clause-told : goal.returns-in-Some-clause-told
returns-in-Some-clause-told g c clean plan =
    let listed = at_some c.in_ok-xs.field-0 c.in-Some.xs _ c.in-Some.is
    (c.in_ok-xs.ensures.listed clean plan) in
    if_some c.in_order.result _ _ (λ sorted moved. shows_moved g.X.Decode.values c.in-Some.xs.items sorted.items
    (tables_of (state g.S.Store c.args.conn.now).now.trees) c.args.table listed moved) c.in_order.ensures.same

pub returns-in-Some-clause-rowids : goal.returns-in-Some-clause-rowids
returns-in-Some-clause-rowids g c clean plan =
    let rows = tables_of (state g.S.Store c.args.conn.now).now.trees c.args.table in
    let listed = at_some c.in_ok-xs.field-0 c.in-Some.xs _ c.in-Some.is
    (c.in_ok-xs.ensures.listed clean plan) in
    if_both c.in_order.result _ _ _ (λ sorted moved order leads. rise_rowids c.args.table g.X.Decode.values
    g.X.Numbered.number_of leads rows sorted.items (listed_moved g.X.Decode.values c.in-Some.xs.items sorted.items
    c.args.table rows listed moved) order) c.in_order.ensures.same c.in_order.ensures.order

pub returns-in-Some-clause-refused : goal.returns-in-Some-clause-refused
returns-in-Some-clause-refused g c clean plan none leads shows =
    let listed = at_some c.in_ok-xs.field-0 c.in-Some.xs _ c.in-Some.is
    (c.in_ok-xs.ensures.listed clean plan) in
    c.in_order.ensures.refused none (items_apart c.args.table g.X.Decode.values g.X.Numbered.number_of leads
    (tables_of (state g.S.Store c.args.conn.now).now.trees c.args.table) c.in-Some.xs.items listed shows.rowids)
