use Rattle.std.proofs.Common.{sym}
use Rattle.std.proofs.lemmas.Result.{err_from_is_err_and}
use Rattle.plan_tables_queries.proofs.RowLemmas.{none_among}
use Rattle.plan_tables_queries.proofs.decoding.decode_each.Goals as goal

pub returns-in_err-fact-clause-untold : goal.returns-in_err-fact-clause-untold
returns-in_err-fact-clause-untold g c =
    let p = err_from_is_err_and c.from_residual-in_err-fact.result c.from_residual-in_err-fact.ensures.1 in
    rw (p.1, p.2) (none_among _ _ c.args.rows.now c.row-item.result
    (c.loop-row.row-index, c.loop-row-test.true, sym c.row-item.is) c.in_err-fact.field-0.0 c.in_err-fact.ensures.untold)
