-- A refused statement changes nothing but its kept job.
use Rattle.std.proofs.Common.{◌≡◌, ◌∙◌, ◌⊎◌, ℕ, List, Option, None, Some, inl, inr, refl, ap}
use Rattle.std.specs.Prelude.{Err}
use Rattle.occurrences.specs.declared.refusal.Refusal.{Refusal}
use Rattle.planner_machine.specs.declared.job.Job.{Job as KeptJob}
use Rattle.planner_machine.specs.Content.{Content}
use Rattle.planner_machine.specs.Jobs.{AnswersKept, kept, with_job}
use Rattle.planner_machine.specs.Refused.{HasJob, KeepsRefusal, RefusedLeaves}
use Rattle.planner_machine.specs.Statement.{Change, Define, decision_of}
use Rattle.planner_machine.specs.Statement.{Days, DefineJob, Job, ListLinks, ListPairs, ListRows, Statement, Trial}

module _ (s : Statement) (number : ℕ) (text : List ℕ) (own : HasJob s number text) (change : Change) where
  job_leaves : (c : Content) (o : Option KeptJob) → c.jobs number ≡ o → (c' : Content) (r : Refusal)
      → AnswersKept number text (decision_of change) c o (Err r) c' → (c' ≡ c) ⊎ KeepsRefusal s r c c'
  job_leaves c None none c' r (left, decides, is) =
      inr (number, text, own, none, is ∙ ap (with_job (kept number text (Err r))) decides.1)
  job_leaves c (Some job) some c' r (is, how) = inl is

pub leaves : RefusedLeaves
leaves (DefineJob number text kind given) c c' r (inl (record_number, faulty, answer, is)) = inl is
leaves (DefineJob number text kind given) c c' r (inr (block, read, h)) =
    job_leaves (DefineJob number text kind given) number text (refl, refl) (Define block) c (c.jobs number) refl c' r h
leaves (Job number text change) c c' r h =
    job_leaves (Job number text change) number text (refl, refl) change c (c.jobs number) refl c' r h
leaves (Days app from to) c c' r h = inl h.1
leaves (Trial change) c c' r h = inl h.1
leaves (ListRows listed app) c c' r h = inl h.1
leaves (ListPairs app) c c' r h = inl h.1
leaves (ListLinks app) c c' r h = inl h.1
