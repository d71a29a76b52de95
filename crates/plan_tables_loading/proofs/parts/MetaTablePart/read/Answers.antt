use Rattle.sqlite.specs.Held.{state}
use Rattle.plan_tables_schema.specs.Rows.{tables_of}
use Rattle.plan_tables_loading.proofs.TableLemmas.{at_some, each_meta, if_some, one_meta, one_rowid, tells_only}
use Rattle.plan_tables_loading.proofs.parts.MetaTablePart.read.Goals as goal

pub returns-in-Some-clause-told : goal.returns-in-Some-clause-told
returns-in-Some-clause-told g c clean plan =
    let all = tables_of (state g.S.Store c.args.conn.now).now.trees in
    let metas = c.in-Some.metas.items in
    let told = at_some c.in_ok-metas.field-0 c.in-Some.metas _ c.in-Some.is
    (c.in_ok-metas.ensures.told clean plan) in
    let listed = at_some c.in_ok-metas.field-0 c.in-Some.metas _ c.in-Some.is
    (c.in_ok-metas.ensures.listed clean plan) in
    if_some c.only.result _ _ (λ m is. (tells_only all metas m is told, one_rowid all metas m is listed))
    c.only.ensures.one

pub returns-in-Some-clause-refused : goal.returns-in-Some-clause-refused
returns-in-Some-clause-refused g c clean plan none readable =
    c.only.ensures.none none (one_meta (tables_of (state g.S.Store c.args.conn.now).now.trees) c.in-Some.metas.items
    (at_some c.in_ok-metas.field-0 c.in-Some.metas _ c.in-Some.is (c.in_ok-metas.ensures.listed clean plan))
    readable)

pub returns-in-None-clause-refused : goal.returns-in-None-clause-refused
returns-in-None-clause-refused g c clean plan none readable =
    c.in_ok-metas.ensures.refused clean plan c.in-None.is
    (each_meta (tables_of (state g.S.Store c.args.conn.now).now.trees) readable)
