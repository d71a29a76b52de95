-- New bounds: creating and extending the long-term plan.
use Rattle.std.proofs.Common.{◌≡◌, ◌≢◌, ℕ, ◌<◌, ◌≤◌, List, length, refl, sym, ap, ap₂, subst, ◌∙◌, inl, inr, arith}
use Rattle.std.proofs.Common.{Option, None, Some}
use Rattle.std.proofs.lemmas.Bool.{cases_lt}
use Rattle.work_calendars.specs.Day.{last_kept_day, last_planning_day}
use Rattle.app_definitions.specs.declared.definitions.Definitions.{Definitions}
use Rattle.occurrences.specs.declared.place.Place.{Place}
use Rattle.occurrences.specs.declared.place.Place.TheVariants.{LongTerm, Current, History, Deleted}
use Rattle.occurrences.specs.declared.reply.Reply.{Reply}
use Rattle.occurrences.specs.declared.reply.Reply.TheVariants.{Made}
use Rattle.external_dependencies.specs.declared.rows.PlacedRow.{PlacedRow}
use Rattle.planner_machine.specs.declared.content.Bounds.{Bounds}
use Rattle.planner_machine.specs.declared.content.Draft.{Draft}
use Rattle.planner_machine.specs.Content.{Seat, Sets}
use Rattle.planner_machine.specs.Create.{AreBadPlanDays, Creates, IsCreated, first_bounds}
use Rattle.planner_machine.specs.Drafts.{AreDrafts}
use Rattle.planner_machine.specs.Extend.{Extends, IsAddedByExtension, IsBadLastDay, later_bounds}
use Rattle.planner_machine.specs.Fate.{Stays}
use Rattle.planner_machine.specs.Laws.{Follows}
use Rattle.planner_machine.specs.Moves.{with_bounds, with_made}
use Rattle.planner_machine.specs.Sound.{AreBounds, ArrivesIn}
use Rattle.planner_machine.proofs.DraftLemmas.{one_plan}
use Rattle.planner_machine.proofs.MadeLemmas.{fresh, made_follows, made_sound}
use Rattle.planner_machine.specs.RowsSound.{IsPlacedIn, RowsSound}
use Rattle.planner_machine.proofs.SeatLemmas.{IsMove, move_sound}

abbrev stay : Seat → Seat
stay s = s

abbrev same_row : PlacedRow → PlacedRow
same_row p = p

stay_is_move : IsMove stay same_row
stay_is_move = record { empty = refl; alone = λ p. refl; serial = λ p. refl; key = λ p. refl }

pub no_plan : (o : Option Bounds) → (o ≢ None → ⊥) → o ≡ None
no_plan None h = refl
no_plan (Some b) h = absurd (h (λ is. cc))

-- dates that are not refused
pub good_days : (from to : ℕ) → (AreBadPlanDays from to → ⊥) → (from ≤ to) × (to ≤ last_kept_day)
good_days from to good = (
  elim (cases_lt to from) [ inl h ↦ absurd (good (inl h)) | inr h ↦ h ],
  elim (cases_lt last_planning_day to) [ inl h ↦ absurd (good (inr (inl h))) | inr h ↦ omega (arith, h) ],
)

pub good_last : (b : Bounds) (to : ℕ) → (IsBadLastDay b to → ⊥) → (b.last_day < to) × (to ≤ last_kept_day)
good_last b to good = (
  elim (cases_lt b.last_day to) [ inl h ↦ h | inr h ↦ absurd (good (inl h)) ],
  elim (cases_lt last_planning_day to) [ inl h ↦ absurd (good (inr (inl h))) | inr h ↦ omega (arith, h) ],
)

-- the same follows, seen from the sets before their bounds changed
bounds_follow : (place : Place) (drafts : List Draft) (c c' : Sets) (b : Bounds)
    → Follows place Stays drafts (with_bounds b c) c' → Follows place Stays drafts c c'
bounds_follow place drafts c c' b f = record { issues = f.issues; old = f.old; new = f.new }

module _ (from to : ℕ) (all : Definitions) where
  pub create_does_one : (c : Sets) (reply reply' : Reply) (c' c'' : Sets) → RowsSound c
      → Creates from to all c reply c' → Creates from to all c reply' c'' → (reply ≡ reply') × (c' ≡ c'')
  create_does_one c reply reply' c' c'' sound a b =
      let same = one_plan (IsCreated from to all c) a.new b.new a.are_new b.are_new in (
        a.replies ∙ ap (λ (l : List Draft). Made (length l) 0) same ∙ sym b.replies,
        a.becomes
            ∙ ap (λ l. with_made LongTerm l (with_bounds (first_bounds from to) c)) same ∙ sym b.becomes,
      )

  module _ (c : Sets) (sound : RowsSound c) (none : c.bounds ≡ None) (days : from ≤ to)
      (last : to ≤ last_kept_day) where
    opened : RowsSound (with_bounds (first_bounds from to) c)
    opened = move_sound stay same_row stay_is_move c sound (Some (first_bounds from to))
        (λ b is. let same : first_bounds from to ≡ b = cc in
        subst AreBounds same (record { days = days; last = last; begun = omega arith; ended = omega arith }))
        (λ p arrives. let P : Option Bounds → Type 0 = λ o. IsPlacedIn o p in absurd (subst P none arrives))
        (λ p live. live)

    pub create_sound : (new : List Draft) → AreDrafts (IsCreated from to all c) new
        → RowsSound (with_made LongTerm new (with_bounds (first_bounds from to) c))
    create_sound new list = made_sound LongTerm (with_bounds (first_bounds from to) c) opened new
        (first_bounds from to) refl
        (λ draft there. let is = (list.exactly draft).0 there in (
          (is.named.1, is.named.2),
          λ serial p stands live keyed. let P : Option Bounds
              → Type 0 = λ o. IsPlacedIn o p in absurd (subst P none (sound.arrivals serial p stands)),
        ))
        list.rising

    pub create_follows : (new : List Draft)
        → Follows LongTerm Stays new c (with_made LongTerm new (with_bounds (first_bounds from to) c))
    create_follows new = bounds_follow LongTerm new c _ (first_bounds from to)
        (made_follows LongTerm (with_bounds (first_bounds from to) c) opened new)

module _ (to : ℕ) (all : Definitions) where
  pub extend_does_one : (c : Sets) (reply reply' : Reply) (c' c'' : Sets) → RowsSound c → Extends to all c reply c'
      → Extends to all c reply' c'' → (reply ≡ reply') × (c' ≡ c'')
  extend_does_one c reply reply' c' c'' sound a b =
      let at_a = a.had in let at_b = b.had in
      let whole : Some a.bounds ≡ Some b.bounds = sym at_a ∙ at_b in
      let bounds : a.bounds ≡ b.bounds = cc in
      let list : AreDrafts (IsAddedByExtension b.bounds to all c) a.new =
      subst (λ (x : Bounds). AreDrafts (IsAddedByExtension x to all c) a.new) bounds a.are_new in
      let same = one_plan (IsAddedByExtension b.bounds to all c) a.new b.new list b.are_new in (
        a.replies ∙ ap (λ (l : List Draft). Made (length l) 0) same ∙ sym b.replies,
        a.becomes
            ∙ ap₂ (λ (x : Bounds) (l : List Draft). with_made LongTerm l
            (with_bounds (later_bounds x to) c)) bounds same ∙ sym b.becomes,
      )

  module _ (c : Sets) (sound : RowsSound c) (b : Bounds) (is : c.bounds ≡ Some b) (later : b.last_day < to)
      (last : to ≤ last_kept_day) where
    arrives_still : (ia : ℕ) (place : Place) → ArrivesIn b ia place → ArrivesIn (later_bounds b to) ia place
    arrives_still ia LongTerm arrives = (arrives.0, omega (arith, arrives.1))
    arrives_still ia (Current status) arrives = arrives
    arrives_still ia History arrives = arrives
    arrives_still ia (Deleted reason) arrives = tt

    extended : RowsSound (with_bounds (later_bounds b to) c)
    extended = let are = sound.bounds b is in move_sound stay same_row stay_is_move c sound (Some (later_bounds b to))
        (λ x at. let same : later_bounds b to ≡ x = cc in
        subst AreBounds same (let days = are.days in let ended = are.ended in
        record { days = omega arith; last = last; begun = are.begun; ended = omega arith }))
        (λ p arrives. let P : Option Bounds → Type 0 = λ o. IsPlacedIn o p in
        arrives_still p.row.key.ia p.place (subst P is arrives))
        (λ p live. live)

    pub extend_sound : (new : List Draft) → AreDrafts (IsAddedByExtension b to all c) new
        → RowsSound (with_made LongTerm new (with_bounds (later_bounds b to) c))
    extend_sound new list = let are = sound.bounds b is in let ended = are.ended in
        made_sound LongTerm (with_bounds (later_bounds b to) c) extended new (later_bounds b to) refl
        (λ draft there. let made = (list.exactly draft).0 there in
        let ahead : b.plan_end ≤ draft.key.ia = omega (arith, made.named.1) in (
          (ahead, made.named.2),
          fresh (with_bounds (later_bounds b to) c) extended
              (later_bounds b to) refl draft.key ahead made.not_planned,
        ))
        list.rising

    pub extend_follows : (new : List Draft)
        → Follows LongTerm Stays new c (with_made LongTerm new (with_bounds (later_bounds b to) c))
    extend_follows new = bounds_follow LongTerm new c _ (later_bounds b to)
        (made_follows LongTerm (with_bounds (later_bounds b to) c) extended new)
