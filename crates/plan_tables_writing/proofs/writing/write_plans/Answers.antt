use Rattle.plan_tables_writing.proofs.TakingLemmas.{writes_no_more, writes_then, writes_weaker}
use Rattle.plan_tables_writing.proofs.writing.write_plans.Goals as goal

pub returns : goal.returns
returns g c = rw (← c.rest-change.ensures, ← c.pairs.ensures.all) (writes_weaker g.S.Store _ _ _ _ _ _ _ _ (λ all _. ((((tt, tt), tt), tt), tt))
    (λ all t. ((((t.0, t.1), t.2), t.3), t.4))
    (writes_then (writes_then (writes_then (writes_then c.in_ok-write_rows.ensures c.in_ok-write_pairs.ensures)
    c.in_ok-write_links.ensures) c.in_ok-write_new_meta.ensures) c.write_job.ensures))

pub returns-in_err-write_rows : goal.returns-in_err-write_rows
returns-in_err-write_rows g c = rw (← c.rest-change.ensures) (writes_no_more c.from_residual.result
    c.from_residual.ensures.1 (λ all t. t.0) c.in_err-write_rows.ensures)

pub returns-in_err-write_pairs : goal.returns-in_err-write_pairs
returns-in_err-write_pairs g c = rw (← c.rest-change.ensures, ← c.pairs.ensures.all) (writes_no_more
    c.from_residual-in_err-write_pairs.result
    c.from_residual-in_err-write_pairs.ensures.1 (λ all t. (t.0, t.1))
    (writes_then c.in_ok-write_rows.ensures c.in_err-write_pairs.ensures))

pub returns-in_err-write_links : goal.returns-in_err-write_links
returns-in_err-write_links g c = rw (← c.rest-change.ensures, ← c.pairs.ensures.all) (writes_no_more
    c.from_residual-in_err-write_links.result
    c.from_residual-in_err-write_links.ensures.1 (λ all t. ((t.0, t.1), t.2))
    (writes_then (writes_then c.in_ok-write_rows.ensures c.in_ok-write_pairs.ensures) c.in_err-write_links.ensures))

pub returns-in_err-write_new_meta : goal.returns-in_err-write_new_meta
returns-in_err-write_new_meta g c = rw (← c.rest-change.ensures, ← c.pairs.ensures.all) (writes_no_more
    c.from_residual-in_err-write_new_meta.result
    c.from_residual-in_err-write_new_meta.ensures.1 (λ all t. (((t.0, t.1), t.2), t.3))
    (writes_then (writes_then (writes_then c.in_ok-write_rows.ensures c.in_ok-write_pairs.ensures)
    c.in_ok-write_links.ensures) c.in_err-write_new_meta.ensures))
