-- The kept jobs as a list and by number.
use Rattle.std.proofs.Common.{◌≡◌, ℕ, List, subst, Some}
use Rattle.std.specs.List.{All, Contains}
use Rattle.std.specs.FinMap.{nat_cmp-IsAntisymmetric}
use Rattle.std.proofs.lemmas.Cmp.{nat_cmp_total}
use Rattle.std.proofs.lemmas.List.Elements.{All-contains, All-contains_itself, All-weaker}
use Rattle.planner_machine.specs.Sound.{IsJob}
use Rattle.planner_machine.specs.declared.job.Job.{Job}
use Rattle.plan_store_lists.proofs.KeyLemmas.{one_item}
use Rattle.plan_store_lists.specs.Rows.{OneEach}
use Rattle.plan_store.specs.Jobs.{AreJobs}
use Rattle.plan_store_lists.proofs.LookLemmas.{look_has, look_some}
use Rattle.plan_store.specs.Contents.{content_of}
use Rattle.plan_store.specs.declared.contents.Content.{Content as Kept}

abbrev number_of : Job → ℕ
number_of job = job.number

one_jobs : (jobs : List Job) → AreJobs jobs → OneEach number_of jobs
one_jobs jobs are x y at_x at_y same =
    one_item nat_cmp_total nat_cmp-IsAntisymmetric number_of jobs are x y at_x at_y same

abbrev pub AreAll : List Job → Type 0
AreAll jobs = All (λ (job : Job). IsJob job.number job) jobs

pub jobs_from : (kept : Kept) → AreAll kept.jobs.items → (number : ℕ) (job : Job)
    → (content_of kept).jobs number ≡ Some job → IsJob number job
jobs_from kept are number job is =
    let at = look_some number_of kept.jobs.items number job is in
    subst (λ n. IsJob n job) at.1 (All-contains (λ (j : Job). IsJob j.number j) kept.jobs.items job are at.0)

pub jobs_to : (kept : Kept)
    → ((number : ℕ) (job : Job) → (content_of kept).jobs number ≡ Some job → IsJob number job)
    → AreAll kept.jobs.items
jobs_to kept are =
    All-weaker (Contains kept.jobs.items) (λ (j : Job). IsJob j.number j)
    (λ job there. are job.number job
    (look_has number_of kept.jobs.items (one_jobs kept.jobs.items kept.numbered_jobs) job there))
    kept.jobs.items (All-contains_itself kept.jobs.items)
