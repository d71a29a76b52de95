use Rattle.plan_tables_writing.proofs.TakingLemmas.{writes_no_more, writes_then, writes_weaker}
use Rattle.plan_tables_writing.proofs.writing.write_change.Goals as goal

pub returns : goal.returns
returns g c = writes_weaker g.S.Store _ _ _ _ _ _ _ _ (λ all f. (f, tt)) (λ all t. ((t.0, t.1.0), t.1.1))
    (writes_then c.in_ok-write_definitions.ensures c.write_plans.ensures)

pub returns-in_err-write_definitions : goal.returns-in_err-write_definitions
returns-in_err-write_definitions g c = writes_no_more c.from_residual.result c.from_residual.ensures.1
    (λ all t. (t.0, t.1.0)) c.in_err-write_definitions.ensures
