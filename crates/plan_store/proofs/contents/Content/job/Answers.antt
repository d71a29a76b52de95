use Rattle.std.proofs.Common.{◌∙◌, sym, ap}
use Rattle.std.specs.FinMap.{nat_cmp-IsAntisymmetric}
use Rattle.std.proofs.lemmas.Cmp.{nat_cmp_total}
use Rattle.plan_store_lists.proofs.KeyLemmas.{missed_all}
use Rattle.plan_store.proofs.JobLemmas.{number_of, one_jobs}
use Rattle.plan_store_lists.proofs.LookLemmas.{look_at, look_lacks}
use Rattle.plan_store.proofs.contents.Content.job.Goals as goal

pub returns-in-Ok : goal.returns-in-Ok
returns-in-Ok c =
    let kept = c.args.self.now in
    let jobs = kept.jobs.items in
    let job = c.index.result.now in
    let taken = rw c.deref.ensures.value at c.in-Ok.ensures.taken in
    sym (look_at number_of jobs (one_jobs jobs kept.numbered_jobs) job c.args.number
    (c.in-Ok.at, taken.0, sym c.index.ensures) (ap number_of c.index.ensures ∙ taken.1 job))

pub returns-in-Err : goal.returns-in-Err
returns-in-Err c =
    let kept = c.args.self.now in
    let jobs = kept.jobs.items in
    let free = (rw c.deref.ensures.value at c.in-Err.ensures.free) kept.numbered_jobs in
    sym (look_lacks number_of jobs c.args.number (missed_all nat_cmp_total nat_cmp-IsAntisymmetric number_of jobs
    c.args.number c.in-Err._at free.1))
