use Rattle.plan_tables_writing.proofs.TakingLemmas.{writes_no_more, writes_then, writes_weaker}
use Rattle.plan_tables_writing.proofs.redefining.renew_cycles.Goals as goal

pub returns : goal.returns
returns g c = writes_weaker g.S.Store _ _ _ _ _ _ _ _ (λ all f. (tt, f))
    (λ all t. (tt, ((t.0.0, t.1.0), (t.0.1, t.1.1))))
    (writes_then (rw c.deref.ensures.value at c.in_ok-delete_cycles.ensures)
    (rw (c.deref-2.ensures.value, c.deref-3.ensures.value) at c.put_cycles.ensures))

pub returns-in_err-delete_cycles : goal.returns-in_err-delete_cycles
returns-in_err-delete_cycles g c = writes_no_more c.from_residual.result c.from_residual.ensures.1 (λ all t. tt)
    c.in_err-delete_cycles.ensures
