-- What a modification names, and what follows for the rows.
use Rattle.std.proofs.Common.{◌≡◌, ◌↔◌, ℕ, ◌+◌, ◌≤◌, List, length, refl, sym, ap, subst, inl, inr, arith, Option, None}
use Rattle.std.proofs.Common.{Some}
use Rattle.std.specs.Prelude.{IsSome}
use Rattle.work_calendars.specs.Day.{last_kept_day}
use Rattle.app_occurrences.specs.Active.{IsActive}
use Rattle.app_definition_records.specs.ByName.{AreNamesOf}
use Rattle.app_definition_records.specs.declared.applications.Application.{Application}
use Rattle.app_definitions.specs.declared.definitions.Definitions.{Definitions}
use Rattle.app_definition_records.proofs.RisingLemmas.{own_names}
use Rattle.occurrences.specs.declared.row.Row.{Row}
use Rattle.planner_machine.specs.declared.content.Bounds.{Bounds}
use Rattle.planner_machine.specs.declared.content.Draft.{Draft}
use Rattle.planner_machine.specs.Content.{Content, midnight}
use Rattle.planner_machine.specs.Drafts.{AreDrafts, IsMade}
use Rattle.planner_machine.specs.Modify.{Modifies, NamesAhead}
use Rattle.planner_machine.specs.Plans.{HoldTooMany}
use Rattle.planner_machine.specs.Sound.{AreDefinitions, IsSound}
use Rattle.planner_machine.proofs.ModifyLemmas.{between, modify_keeps}
use Rattle.planner_machine.specs.RowsSound.{RowsSound}
use Rattle.planner_machine.proofs.SoundLemmas.{rows_sound}
use Rattle.plan_store_lists.specs.Rows.{of_row}
use Rattle.plan_store.specs.Views.{IsAny, ListsSet}
use Rattle.long_term_plan.specs.Drafting.{NamesFor}
use Rattle.long_term_plan.specs.Modifying.{AreAsked, AreParted, AreTooMany, Looks, NamesThen, looks, modified_reply}
use Rattle.long_term_plan.specs.Modifying.{modified_sets, outcome}
use Rattle.long_term_plan.proofs.ChangedLemmas.{looks_tests, planned_then}
use Rattle.long_term_plan.proofs.DraftingLemmas.{same_drafts}

-- all names of applications are asked where the statement looks at all
pub asked_all : (all : Definitions) (apps : List (List ℕ)) → AreNamesOf apps all.applications → AreAsked all None apps
asked_all all apps are = record {
  apart = own_names (λ (name : List ℕ). name) apps are.rising;
  looked = λ app there. tt;
  active = λ app a active look.
      let defined : IsSome _ = subst (λ (o : Option Application). IsSome o) (sym active.0) refl in
      (are.exactly app).1 defined;
}

named_for : (all : Definitions) (only : Option (List ℕ)) (apps : List (List ℕ)) → AreAsked all only apps → (b : Bounds)
    (draft : Draft) → NamesFor all apps b.plan_end (midnight (b.last_day + 1)) draft
    ↔ NamesAhead (Looks only) all (Some b) draft
named_for all only apps asked b draft = (
  (λ is. (is.0, asked.looked draft.key.app is.1)),
  λ is. let ((app, x, (a, active, occurs), same), from, before) = is.0 in
      let own = subst (λ (name : List ℕ). IsActive all name a) (ap (λ (d : Draft). d.key.app) (sym same)) active in
      (is.0, asked.active draft.key.app a own is.1),
)

pub named_then : (c : Content) → IsSound c → (b : Bounds) → c.sets.bounds ≡ Some b → (only : Option (List ℕ))
    (all : Definitions) → all ≡ c.definitions → (names apps : List (List ℕ)) → AreAsked all only names → apps ≡ names
    → (last : ℕ) → (b.last_day ≤ last_kept_day → last ≡ b.last_day) → (drafts named : List Draft)
    → (AreDefinitions all → AreDrafts (NamesFor all apps b.plan_end (midnight (last + 1))) drafts) → named ≡ drafts
    → AreDrafts (NamesThen c only) named
named_then c sound b planned only all defined names apps asked same last within drafts named are same' =
    let sound_all : AreDefinitions all = subst AreDefinitions (sym defined) sound.ranges.definitions in
    let ends : last ≡ b.last_day = within (sound.bounds.after b planned).last in
    let asked' : AreAsked all only apps = subst (AreAsked all only) (sym same) asked in
    let to_end : AreDrafts (NamesFor all apps b.plan_end (midnight (b.last_day + 1))) drafts =
    subst (λ (d : ℕ). AreDrafts (NamesFor all apps b.plan_end (midnight (d + 1))) drafts) ends (are sound_all) in
    let listed : AreDrafts (NamesFor all apps b.plan_end (midnight (b.last_day + 1))) named =
    subst (AreDrafts (NamesFor all apps b.plan_end (midnight (b.last_day + 1)))) (sym same') to_end in
    let ahead : AreDrafts (NamesAhead (Looks only) all (Some b)) named =
    same_drafts (NamesFor all apps b.plan_end (midnight (b.last_day + 1))) (NamesAhead (Looks only) all (Some b))
    (named_for all only apps asked' b) named listed in
    let ahead' : AreDrafts (NamesAhead (Looks only) c.definitions (Some b)) named =
    subst (λ (ds : Definitions). AreDrafts (NamesAhead (Looks only) ds (Some b)) named) defined ahead in
    subst (λ (o : Option Bounds). AreDrafts (NamesAhead (Looks only) c.definitions o) named) (sym planned) ahead'

module _ (c : Content) (sound : IsSound c) (only : Option (List ℕ)) (named new : List Draft) where
  pub stays_sound : (b : Bounds) → c.sets.bounds ≡ Some b → AreDrafts (IsMade (NamesThen c only) c.sets) new
      → RowsSound (modified_sets only named new c.sets)
  unfolding between
  stays_sound b planned are =
      modify_keeps (looks only) (Looks only) (looks_tests only) c.definitions c.sets (rows_sound c sound) named b
      planned
      new are

  pub too_many : (rows : List Row) → ListsSet of_row c.sets.ltp IsAny rows → (kept gone changed : List Row)
      → AreParted (outcome only named) rows kept gone changed → (k n : ℕ) → k ≡ length kept → n ≡ length new
      → AreTooMany c.sets k n ↔ HoldTooMany (modified_sets only named new c.sets)
  too_many rows lists kept gone changed parts k n many made =
      let counted = planned_then c.definitions c.sets (rows_sound c sound) rows lists only named kept gone changed
      parts new in (
        (λ over. elim over [
          | inl past ↦ inl (omega (arith, past, counted, many, made))
          | inr past ↦ inr (omega (arith, past, made))
        ]),
        λ over. elim over [
          | inl past ↦ inl (omega (arith, past, counted, many, made))
          | inr past ↦ inr (omega (arith, past, made))
        ],
      )

  pub modifies : AreDrafts (NamesThen c only) named → AreDrafts (IsMade (NamesThen c only) c.sets) new
      → Modifies (looks only) (Looks only) c.definitions c.sets (modified_reply only named new c.sets)
      (modified_sets only named new c.sets)
  modifies are_named are_new =
      record { named = named; are_named = are_named; new = new; are_new = are_new; replies = refl; becomes = refl }
