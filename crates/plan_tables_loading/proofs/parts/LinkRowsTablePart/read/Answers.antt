use Rattle.sqlite.specs.Held.{state}
use Rattle.plan_tables_schema.specs.Rows.{tables_of}
use Rattle.plan_tables_content.specs.Facts.{link_values}
use Rattle.plan_tables_loading.proofs.TableLemmas.{at_some, if_some}
use Rattle.plan_tables_loading.proofs.LinkLemmas.{shown_once, shows_same}
use Rattle.plan_tables_schema.specs.declared.tables.Table.TheVariants as table
use Rattle.plan_tables_loading.proofs.parts.LinkRowsTablePart.read.Goals as goal

pub returns-in_ok-link_rows-in-Some-clause-told : goal.returns-in_ok-link_rows-in-Some-clause-told
returns-in_ok-link_rows-in-Some-clause-told g c clean plan =
    let all = tables_of (state g.S.Store c.args.conn.now).now.trees in
    if_some c.in_ok-link_rows-in-Some.field-0 _ _ (λ part same. shows_same link_values c.in-Some.links.items part.links all
    table.LinkInForce same (at_some c.in_ok-links.field-0 c.in-Some.links _ c.in-Some.is
    (c.in_ok-links.ensures.told clean plan))) c.in_ok-link_rows-in-Some.ensures.same

pub returns-in_ok-link_rows-in-Some-clause-refused : goal.returns-in_ok-link_rows-in-Some-clause-refused
returns-in_ok-link_rows-in-Some-clause-refused g c clean plan none readable =
    let all = tables_of (state g.S.Store c.args.conn.now).now.trees in
    c.in_ok-link_rows-in-Some.ensures.none none (shown_once all c.in-Some.links.items
    (at_some c.in_ok-links.field-0 c.in-Some.links _ c.in-Some.is (c.in_ok-links.ensures.told clean plan))
    readable)

pub returns-in-None-clause-refused : goal.returns-in-None-clause-refused
returns-in-None-clause-refused g c clean plan none readable =
    c.in_ok-links.ensures.refused clean plan c.in-None.is readable.shows
