use Rattle.std.specs.Prelude.{Ok, Err, Some, None}
use Rattle.plan_tables_queries.proofs.FindLemmas.{passes_on}
use Rattle.plan_tables_queries.proofs.NumberLemmas.{finds_number, jobs_numbered}
use Rattle.plan_tables_queries.proofs.finding.kept_job.Goals as goal

pub returns-in-Some : goal.returns-in-Some
returns-in-Some g c = finds_number _ _ _ _ _ _ jobs_numbered g.S.Store c.args.conn.now
    c.job_of_number-found.new.conn c.args.number c.job_of_number-found.result c.job_of_number-found.ensures
    (Ok (Some c.in-Some.job)) c.answer_is_small.ensures (rw c.in-Some.is at c.in_ok-job.ensures)

pub returns-in-None : goal.returns-in-None
returns-in-None g c = finds_number _ _ _ _ _ _ jobs_numbered g.S.Store c.args.conn.now
    c.job_of_number-found.new.conn c.args.number c.job_of_number-found.result c.job_of_number-found.ensures
    (Ok None) tt (rw c.in-None.is at c.in_ok-job.ensures)

pub returns-in_err-job : goal.returns-in_err-job
returns-in_err-job g c = passes_on g.S.Store c.args.conn.now c.job_of_number-found.new.conn c.in_err-job.field-0.0 _
    c.from_residual.result c.from_residual.ensures.1 (finds_number _ _ _ _ _ _ jobs_numbered g.S.Store c.args.conn.now
    c.job_of_number-found.new.conn c.args.number c.job_of_number-found.result c.job_of_number-found.ensures
    (Err c.in_err-job.field-0.0) tt c.in_err-job.ensures)
