use Rattle.std.specs.List.{AllWithin}
use Rattle.planner_machine.specs.declared.job.Job.{Job}
use Rattle.plan_tables_content.specs.Content.{IsSmall}
use Rattle.plan_tables_loading.proofs.jobs.answers_are_small.Given as goal

abbrev pub invariant-loop-job : goal.invariant-loop-job
invariant-loop-job l = AllWithin (λ (job : Job). IsSmall job.reply) l.jobs 0 l.job-index
