-- Kept jobs.
use Rattle.std.specs.Prelude.{List}
use Rattle.std.specs.Ordering.{nat_cmp}
use Rattle.planner_machine.specs.declared.job.Job.{Job}
use Rattle.plan_store_lists.specs.Keyed.{IsKeyed}

-- in the order of their numbers, each number once
abbrev pub AreJobs : List Job → Type 0
AreJobs jobs = IsKeyed nat_cmp (λ (job : Job). job.number) jobs
