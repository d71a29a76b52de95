use Rattle.plan_tables_writing.proofs.TakingLemmas.{writes_no_more, writes_then}
use Rattle.plan_tables_writing.proofs.redefining.put_cycles.Goals as goal

pub returns : goal.returns
returns g c = writes_then c.in_ok-put_rows.ensures c.put_rows-2.ensures

pub returns-in_err-put_rows : goal.returns-in_err-put_rows
returns-in_err-put_rows g c = writes_no_more c.from_residual.result c.from_residual.ensures.1 (λ all t. t.0)
    c.in_err-put_rows.ensures
