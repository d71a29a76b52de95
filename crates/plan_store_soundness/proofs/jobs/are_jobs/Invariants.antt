use Rattle.std.specs.List.{AllWithin}
use Rattle.planner_machine.specs.declared.job.Job.{Job}
use Rattle.planner_machine.specs.Sound.{IsJob}
use Rattle.plan_store_soundness.proofs.jobs.are_jobs.Given as goal

abbrev pub invariant-loop-job : goal.invariant-loop-job
invariant-loop-job l = AllWithin (λ (job : Job). IsJob job.number job) l.jobs 0 l.job-index
