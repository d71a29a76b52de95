-- Adding one occurrence.
use Rattle.std.proofs.Common.{◌≡◌, ◌≢◌, ℕ, zero, suc, ◌+◌, [], ◌∷◌, subst, inl, inr, arith, Some}
use Rattle.std.specs.Prelude.{Contains}
use Rattle.std.specs.List.{AllPairs}
use Rattle.std.proofs.lemmas.Bool.{cases_lt}
use Rattle.occurrences.specs.Key.{KeyBefore}
use Rattle.occurrences.specs.Place.{IsLive}
use Rattle.occurrences.specs.declared.key.Key.{Key}
use Rattle.occurrences.specs.declared.place.Place.{Place}
use Rattle.occurrences.specs.declared.place.Place.TheVariants.{LongTerm, Current, History, Deleted}
use Rattle.external_dependencies.specs.declared.rows.PlacedRow.{PlacedRow}
use Rattle.planner_machine.specs.declared.content.Bounds.{Bounds}
use Rattle.planner_machine.specs.declared.content.Draft.{Draft}
use Rattle.planner_machine.specs.Add.{IsLiveKey, IsOutside}
use Rattle.planner_machine.specs.Content.{Sets, IsOnlyAt, midnight}
use Rattle.planner_machine.specs.Drafts.{added}
use Rattle.planner_machine.specs.Moves.{with_made}
use Rattle.planner_machine.specs.Sound.{ArrivesIn}
use Rattle.planner_machine.proofs.MadeLemmas.{made_sound}
use Rattle.planner_machine.specs.RowsSound.{RowsSound}

pub not_outside : (b : Bounds) (ia : ℕ) (place : Place) → (IsOutside b ia place → ⊥) → ArrivesIn b ia place
not_outside b ia LongTerm inside = (
  elim (cases_lt ia b.plan_end) [ inl h ↦ absurd (inside (inl h)) | inr h ↦ h ],
  elim (cases_lt ia (midnight (b.last_day + 1))) [ inl h ↦ h | inr h ↦ absurd (inside (inr h)) ],
)
not_outside b ia (Current status) inside = (
  elim (cases_lt ia (midnight b.first_day)) [ inl h ↦ absurd (inside (inl h)) | inr h ↦ h ],
  elim (cases_lt ia b.plan_end) [ inl h ↦ h | inr h ↦ absurd (inside (inr h)) ],
)
not_outside b ia History inside = (
  elim (cases_lt ia (midnight b.first_day)) [ inl h ↦ absurd (inside (inl h)) | inr h ↦ h ],
  elim (cases_lt ia b.plan_end) [ inl h ↦ h | inr h ↦ absurd (inside (inr h)) ],
)
not_outside b ia (Deleted reason) inside = tt

pub only_one : (d x : Draft) → Contains (d ∷ []) x → d ≡ x
only_one d x (zero, lt, at) = at
only_one d x (suc k, lt, at) = absurd (omega (arith, lt))

one_rises : (d : Draft) → AllPairs (λ (x y : Draft). KeyBefore x.key y.key) (d ∷ [])
one_rises d i j e lt within = absurd (omega (arith, lt, within))

pub add_sound : (place : Place) (key : Key) (c : Sets) → RowsSound c → (b : Bounds) → c.bounds ≡ Some b
    → (IsOutside b key.ia place → ⊥) → (IsLiveKey c key → ⊥) → RowsSound (with_made place (added key ∷ []) c)
add_sound place key c sound b is inside free = made_sound place c sound (added key ∷ []) b is
    (λ draft there. let same = only_one (added key) draft there in
    let P : Draft → Type 0 = λ d. ArrivesIn b d.key.ia place
    × ((serial : ℕ) (p : PlacedRow) → IsOnlyAt c serial p → IsLive p.place → p.row.key ≢ d.key) in
    subst P same (
      not_outside b key.ia place inside,
      λ serial p stands live keyed. free (serial, p, stands, live, keyed),
    ))
    (one_rises (added key))
