-- What tables tell of a set is the set.
use Rattle.std.proofs.Common.{◌≡◌, ◌↔◌, ℕ, List, Option, Some, None, refl, sym, ap, ◌∙◌, subst, map}
use Rattle.std.specs.Prelude.{Contains}
use Rattle.sqlite.specs.Order.{Row as Values}
use Rattle.occurrences.specs.declared.place.Deletion.{Deletion}
use Rattle.occurrences.specs.declared.row.Row.{Row}
use Rattle.planner_machine.specs.declared.job.Job.{Job}
use Rattle.plan_tables_schema.specs.declared.tables.Table.TheVariants as table
use Rattle.plan_tables_content.specs.Content.{IsOfSet, IsSmall, IsUnderOwn, job_values}
use Rattle.plan_tables_content.specs.Decoded.{deletion_of, job_of, row_of}
use Rattle.plan_tables_content.specs.Facts.{deletion_values, row_values}
use Rattle.plan_tables_content.specs.DecodedSets.{AllRepresentSets, told_set}
use Rattle.app_definition_records.proofs.RisingLemmas.{Contains-map, Contains-map_back}
use Rattle.plan_store_lists.proofs.LookLemmas.{look_none, look_some}
use Rattle.plan_tables_content.proofs.AnswerLemmas.{answer_back}
use Rattle.plan_tables_content.proofs.Decoded.{deletion_back, row_back}
use Rattle.plan_tables_content.proofs.SameOptions.{same_options}

job_back : (job : Job) → IsSmall job.reply → job_of (job_values job) ≡ job
job_back job small = λ i. record job { reply = answer_back job.reply small i }

module _ {X : Type 0} (fact_of : Values → X) (values_of : X → Values) (number_of : X → ℕ) (Is : X → Type 0)
    (back : (x : X) → Is x → fact_of (values_of x) ≡ x) (set : ℕ → Option X)
    (good : (n : ℕ) (x : X) → set n ≡ Some x → Is x) (own : IsUnderOwn number_of set) (rows : List Values)
    (facts : (v : Values) → Contains rows v ↔ IsOfSet values_of set v) where
  told_of : (n : ℕ) (x : X) → Contains (map fact_of rows) x → (number_of x ≡ n) → set n ≡ Some x
  told_of n x there numbered =
      let (v, here, is) = Contains-map_back fact_of rows x there in
      let (m, y, at, values) = (facts v).0 here in
      let same : y ≡ x = sym (back y (good m y at)) ∙ ap fact_of (sym values) ∙ is in
      let number : m ≡ n = sym (own m y at) ∙ ap number_of same ∙ numbered in
      subst (λ k. set k ≡ Some x) number (at ∙ ap Some same)

  told_is : (n : ℕ) (x : X) → told_set fact_of number_of rows n ≡ Some x → set n ≡ Some x
  told_is n x e = let is = look_some number_of (map fact_of rows) n x e in told_of n x is.0 is.1

  is_told : (n : ℕ) (x : X) → set n ≡ Some x → told_set fact_of number_of rows n ≡ Some x
  is_told n x at =
      let here = (facts (values_of x)).1 (n, x, at, refl) in
      let there : Contains (map fact_of rows) x =
      subst (Contains (map fact_of rows)) (back x (good n x at)) (Contains-map fact_of rows (values_of x) here) in
      elim (told_set fact_of number_of rows n) as (λ o. told_set fact_of number_of rows n ≡ o → o ≡ Some x) [
        | None ↦ λ e. absurd (look_none number_of (map fact_of rows) n e x there (own n x at))
        | Some y ↦ λ e. sym (told_is n y e) ∙ at
      ] refl

  pub told_set_is : told_set fact_of number_of rows ≡ set
  told_set_is = λ i n. same_options (told_set fact_of number_of rows n) (set n) (told_is n) (is_told n) i

pub all_tell_sets : AllRepresentSets
all_tell_sets all c is = record {
  history = told_set_is row_of row_values (λ (r : Row). r.serial) (λ _. Unit {0}) (λ r _. row_back r) c.sets.history
      (λ _ _ _. tt) is.representable.history _ (is.facts table.History);
  deletions = told_set_is deletion_of deletion_values (λ (d : Deletion). d.row.serial) (λ _. Unit {0})
      (λ d _. deletion_back d) c.sets.deletions (λ _ _ _. tt) is.representable.deletions _ (is.facts table.Deletion);
  jobs = told_set_is job_of job_values (λ (j : Job). j.number) (λ (j : Job). IsSmall j.reply) job_back c.jobs
      is.representable.answers is.representable.jobs _ (is.facts table.Job);
}
