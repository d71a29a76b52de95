use Rattle.std.proofs.Common.{List, subst, sym}
use Rattle.std.specs.List.{All}
use Rattle.planner_machine.specs.Sound.{IsJob}
use Rattle.planner_machine.specs.declared.job.Job.{Job}
use Rattle.plan_store_soundness.proofs.JobLemmas.{jobs_from, jobs_to}
use Rattle.plan_store_soundness.proofs.jobs.has_kept_jobs.Goals as goal

pub returns : goal.returns
returns c =
    let kept = c.args.content.now in
    let Are : List Job → Type 0 = λ l. All (λ (job : Job). IsJob job.number job) l in (
      λ yes. jobs_from kept (subst Are c.deref.ensures.value (c.are_jobs.ensures.0 yes)),
      λ are. c.are_jobs.ensures.1 (subst Are (sym c.deref.ensures.value) (jobs_to kept are)),
    )
