use Rattle.plan_tables_writing.specs.Redefining.{rows_of}
use Rattle.plan_tables_writing.proofs.TakingLemmas.{writes_weaker}
use Rattle.plan_tables_writing.proofs.TurnLemmas.{always, both, rows_taken}
use Rattle.plan_tables_writing.proofs.redefining.put_rows.Goals as goal

pub returns : goal.returns
returns g c =
    let rows = c.args.rows.now in
    writes_weaker g.S.Store _ _ _ _ _ _ _ _ (λ all are. always _ _ rows (λ row has now. are row has) all)
    (λ all accepts. both _ _ _ rows all (always _ _ rows (λ row has now. accepts.0 row has) all)
    (rows_taken c.args.table rows_of rows all accepts.1)) c.write_each.ensures
