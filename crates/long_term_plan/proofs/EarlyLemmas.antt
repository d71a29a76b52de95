-- What is refused before a row is seen.
use Rattle.std.proofs.Common.{◌≡◌, ◌⊎◌, ℕ, None, Some, ap, inl, inr, refl, subst, sym}
use Rattle.app_definitions.specs.declared.definitions.Definitions.{Definitions as All}
use Rattle.occurrences.specs.declared.refusal.Refusal.{Refusal}
use Rattle.occurrences.specs.declared.refusal.Refusal.TheVariants.{DatesOutOfRange}
use Rattle.planner_machine.specs.declared.content.Bounds.{Bounds}
use Rattle.planner_machine.specs.Content.{Content}
use Rattle.planner_machine.specs.Create.{AreBadPlanDays, create}
use Rattle.planner_machine.specs.Extend.{IsBadLastDay, extend}
use Rattle.plan_store.specs.Views.{Shows, shown}
use Rattle.plan_store.specs.declared.stores.Need.TheVariants.{Definitions}
use Rattle.plan_store.specs.declared.views.View.{View}
use Rattle.long_term_plan.specs.Early.{IsRefusedEarly}
use Rattle.long_term_plan.specs.Making.{LacksDefinition}
use Rattle.long_term_plan.proofs.CreateLemmas as created
use Rattle.long_term_plan.proofs.ExtendLemmas as extended

-- a window of the definitions shows the bounds and the definitions
module _ (view : View) (c : Content) (shows : Shows Definitions view c) where
  pub bounds_shown : (shown view).sets.bounds ≡ c.sets.bounds
  bounds_shown = ap (λ (x : Content). x.sets.bounds) shows.is

  pub definitions_shown : (shown view).definitions ≡ c.definitions
  definitions_shown = ap (λ (x : Content). x.definitions) shows.is

-- an application lacks a definition, and that is the refusal, or none does, and it is that of the days
abbrev pub IsOfDates : All → Refusal → Type 0
IsOfDates all refusal = LacksDefinition all (Some refusal)
    ⊎ (LacksDefinition all None × (refusal ≡ DatesOutOfRange))

pub extend_bad : (to : ℕ) (c : Content) (b : Bounds) → c.sets.bounds ≡ Some b → IsBadLastDay b to → (refusal : Refusal)
    → IsOfDates c.definitions refusal → IsRefusedEarly (extend to) c (Some refusal)
extend_bad to c b planned bad refusal (inl lacking) = (extended.lacks to c b planned refusal lacking, refl)
extend_bad to c b planned bad refusal (inr (defined, dates)) =
    subst (λ r. IsRefusedEarly (extend to) c (Some r)) (sym dates) (extended.bad_day to c b planned defined bad, refl)

pub create_bad : (from to : ℕ) (c : Content) → c.sets.bounds ≡ None → AreBadPlanDays from to → (refusal : Refusal)
    → IsOfDates c.definitions refusal → IsRefusedEarly (create from to) c (Some refusal)
create_bad from to c unplanned bad refusal (inl lacking) = (created.lacks from to c unplanned refusal lacking, refl)
create_bad from to c unplanned bad refusal (inr (defined, dates)) =
    subst (λ r. IsRefusedEarly (create from to) c (Some r)) (sym dates)
    (created.bad_days from to c unplanned defined bad, refl)
