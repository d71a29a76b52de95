use Rattle.sqlite.specs.Held.{state}
use Rattle.plan_tables_schema.specs.Rows.{tables_of}
use Rattle.plan_tables_schema.proofs.ResultLemmas.{if_err, if_ok}
use Rattle.plan_tables_queries.proofs.FindLemmas.{finds_fact, not_found}
use Rattle.plan_tables_queries.proofs.OfAppLemmas.{are_all_of, row_is_told}
use Rattle.plan_tables_queries.proofs.RowLemmas.{is_of_row}
use Rattle.plan_tables_queries.proofs.finding.completed_of.Goals as goal

pub returns : goal.returns
returns g c =
    let untold = rw c.deref.ensures.value at c.decode_each.ensures.untold in
    finds_fact g.S.Store c.args.conn.now c.history_of.new.conn c.in_ok-rows.rows _
    c.in_ok-rows.ensures _ c.decode_each.result
    (λ content is sound same. if_ok c.decode_each.result _ _ (λ found told.
    are_all_of (tables_of (state g.S.Store c.args.conn.now).now.trees) content is c.args.app.now
    c.in_ok-rows.rows.items same found.items told)
    (rw c.deref.ensures.value at c.decode_each.ensures.told))
    (λ content is sound same. if_err c.decode_each.result _ _
    (row_is_told (tables_of (state g.S.Store c.args.conn.now).now.trees) content is c.args.app.now
    c.in_ok-rows.rows.items same sound) untold)
    (if_err c.decode_each.result _ _ (is_of_row _ _ c.in_ok-rows.rows.items) untold)

pub returns-in_err-rows : goal.returns-in_err-rows
returns-in_err-rows g c = not_found g.S.Store c.args.conn.now c.history_of.new.conn c.in_err-rows.field-0.0 _
    c.in_err-rows.ensures _ c.from_residual.result c.from_residual.ensures.1
