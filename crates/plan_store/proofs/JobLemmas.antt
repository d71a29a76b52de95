-- Kept jobs, as a list and as a look-up by number.
use Rattle.std.proofs.Common.{◌≡◌, ◌↔◌, ℕ, ◌⊎◌, true, false, List, refl, sym, ap, ◌∙◌, inl, inr, Some, None}
use Rattle.std.specs.Prelude.{nat_eq, if◌then◌else◌}
use Rattle.std.specs.List.{Contains}
use Rattle.std.specs.FinMap.{nat_cmp-IsAntisymmetric}
use Rattle.std.proofs.lemmas.Bool.{eqb-true, eqb-false}
use Rattle.std.proofs.lemmas.Cmp.{nat_cmp_total}
use Rattle.planner_machine.specs.declared.job.Job.{Job}
use Rattle.plan_store_lists.specs.Rows.{OneEach, look_up}
use Rattle.plan_store_lists.proofs.KeyLemmas.{one_item}
use Rattle.plan_store.specs.Jobs.{AreJobs}
use Rattle.plan_store_lists.proofs.LookLemmas.{look_at, look_lacks, look_none, look_some}

abbrev pub number_of : Job → ℕ
number_of job = job.number

pub one_jobs : (jobs : List Job) → AreJobs jobs → OneEach number_of jobs
one_jobs jobs are x y at_x at_y same = one_item nat_cmp_total nat_cmp-IsAntisymmetric number_of jobs are x y at_x at_y
    same

-- one more job, under a new number
module _ (old new : List Job) (job : Job) (one : OneEach number_of old) (is : (z : Job) → Contains new z
    ↔ ((job ≡ z) ⊎ Contains old z)) (none : look_up number_of old job.number ≡ None) where
  one_new : OneEach number_of new
  one_new x y at_x at_y same = elim ((is x).0 at_x) [
    | inl is_x ↦ elim ((is y).0 at_y) [
      | inl is_y ↦ sym is_x ∙ is_y
      | inr old_y ↦ absurd (look_none number_of old job.number none y old_y (sym same ∙ ap number_of (sym is_x)))
    ]
    | inr old_x ↦ elim ((is y).0 at_y) [
      | inl is_y ↦ absurd (look_none number_of old job.number none x old_x (same ∙ ap number_of (sym is_y)))
      | inr old_y ↦ one x y old_x old_y same
    ]
  ]

  pub look_kept : (number : ℕ) → look_up number_of new number
      ≡ (if nat_eq job.number number then Some job else look_up number_of old number)
  look_kept number = elim (nat_eq job.number number) as (λ b. nat_eq job.number number ≡ b → look_up number_of new
      number ≡ (if b then Some job else look_up number_of old number)) [
        | true ↦ λ same. look_at number_of new one_new job number ((is job).1 (inl refl)) (eqb-true _ _ same)
        | false ↦ λ other. elim (look_up number_of old number) as (λ o. look_up number_of old number ≡ o
            → look_up number_of new number ≡ o) [
              | Some x ↦ λ e. let there = look_some number_of old number x e in look_at number_of new one_new x number
                  ((is x).1 (inr there.0)) there.1
              | None ↦ λ e. look_lacks number_of new number (λ z at_z same. elim ((is z).0 at_z) [
                | inl here ↦ eqb-false _ _ other (ap number_of here ∙ same)
                | inr old_z ↦ look_none number_of old number e z old_z same
              ])
            ] refl
      ] refl
