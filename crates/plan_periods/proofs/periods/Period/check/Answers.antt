use Rattle.plan_periods.proofs.FaultLemmas.{all_no_fault, work_no_fault, listed_no_fault}
use Rattle.plan_periods.proofs.periods.Period.check.Goals as goal

pub returns-in-All-clause-no_fault : goal.returns-in-All-clause-no_fault
returns-in-All-clause-no_fault c = rw c.in-All.is (all_no_fault
    c.in-All.origin _ _ c.check_interval.ensures.ok c.check_interval.ensures.err)

pub returns-in-Work-clause-no_fault : goal.returns-in-Work-clause-no_fault
returns-in-Work-clause-no_fault c = rw c.in-Work.is (work_no_fault
    c.in-Work.origin _ _ c.check_interval-in-Work.ensures.ok c.check_interval-in-Work.ensures.err)

pub returns-in-Listed-clause-no_fault : goal.returns-in-Listed-clause-no_fault
returns-in-Listed-clause-no_fault c = rw c.in-Listed.is (listed_no_fault _ _
    (rw (← c.as_slice.ensures) c.check_origins.ensures.ok) (rw (← c.as_slice.ensures) c.check_origins.ensures.err))
