use Rattle.plan_tables_writing.proofs.TakingLemmas.{writes_no_more, writes_then}
use Rattle.plan_tables_writing.proofs.steps.Tuple2Step.run.Goals as goal

pub returns : goal.returns
returns g c = writes_then c.in_ok-run.ensures c.run-2.ensures

pub returns-in_err-run : goal.returns-in_err-run
returns-in_err-run g c = writes_no_more c.from_residual.result c.from_residual.ensures.1 (λ all t. t.0)
    c.in_err-run.ensures
