use Rattle.sqlite.specs.Held.{state}
use Rattle.plan_tables_schema.specs.Rows.{tables_of}
use Rattle.plan_tables_loading.proofs.PairLemmas.{shows_pairs, told_apart}
use Rattle.plan_tables_loading.proofs.TableLemmas.{at_some, if_both}
use Rattle.plan_tables_loading.proofs.parts.PairRowsTablePart.read.Goals as goal

pub returns-in_ok-pair_rows-in-Some-clause-told : goal.returns-in_ok-pair_rows-in-Some-clause-told
returns-in_ok-pair_rows-in-Some-clause-told g c clean plan =
    let all = tables_of (state g.S.Store c.args.conn.now).now.trees in
    let told = c.in-Some.told.items in
    let listed = at_some c.in_ok-told.field-0 c.in-Some.told _ c.in-Some.is
    (c.in_ok-told.ensures.listed clean plan) in
    if_both c.in_ok-pair_rows-in-Some.field-0 _ _ _ (λ part are apart. shows_pairs all told listed part.pairs.items
    are apart) c.in_ok-pair_rows-in-Some.ensures.same c.in_ok-pair_rows-in-Some.ensures.apart

pub returns-in_ok-pair_rows-in-Some-clause-refused : goal.returns-in_ok-pair_rows-in-Some-clause-refused
returns-in_ok-pair_rows-in-Some-clause-refused g c clean plan none readable =
    let listed = at_some c.in_ok-told.field-0 c.in-Some.told _ c.in-Some.is
    (c.in_ok-told.ensures.listed clean plan) in
    c.in_ok-pair_rows-in-Some.ensures.none none (told_apart (tables_of (state g.S.Store c.args.conn.now).now.trees)
    c.in-Some.told.items listed readable.rowids)
