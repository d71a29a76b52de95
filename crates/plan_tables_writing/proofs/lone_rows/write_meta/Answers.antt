use Rattle.plan_tables_writing.proofs.KindLemmas.{meta_storable}
use Rattle.plan_tables_writing.proofs.TakingLemmas.{writes_no_more, writes_then, writes_weaker}
use Rattle.plan_tables_writing.proofs.lone_rows.write_meta.Goals as goal

pub returns : goal.returns
returns g c = writes_weaker g.S.Store _ _ _ _ _ _ _ _
    (λ all _. (tt, meta_storable c.args.bounds.now c.args.issued c.args.options.now)) (λ all t. (tt, t))
    (writes_then c.in_ok-delete_meta.ensures c.put_meta.ensures)

pub returns-in_err-delete_meta : goal.returns-in_err-delete_meta
returns-in_err-delete_meta g c = writes_no_more c.from_residual.result c.from_residual.ensures.1 (λ all t. tt)
    c.in_err-delete_meta.ensures
