-- What stands after a statement stood before, or was made; and what each fate keeps.
use Rattle.std.proofs.Common.{◌≡◌, ℕ, suc, ◌+◌, ◌-◌, ◌<◌, ◌⊎◌, true, false, List, length, refl, sym, ap, subst, ◌∙◌}
use Rattle.std.proofs.Common.{inl, inr, arith, Some}
use Rattle.std.specs.Prelude.{Bool, Contains, slice_get, if◌then◌else◌}
use Rattle.std.proofs.lemmas.Bool.{cases_lt}
use Rattle.std.proofs.lemmas.Option.{get_or_from_slice_get, slice_get_cases}
use Rattle.app_definitions.specs.declared.definitions.Definitions.{Definitions}
use Rattle.occurrences.specs.Place.{IsComplete, IsLive}
use Rattle.occurrences.specs.declared.key.Key.{Key}
use Rattle.occurrences.specs.declared.place.Place.{Place}
use Rattle.occurrences.specs.declared.place.Place.TheVariants.{LongTerm, Current, History, Deleted}
use Rattle.occurrences.specs.declared.place.Reason.TheVariants.{Withdrawn}
use Rattle.occurrences.specs.declared.row.Row.{Row}
use Rattle.occurrences.specs.declared.status.Action.{Action}
use Rattle.occurrences.specs.declared.status.Action.TheVariants.{Start, Complete, Fail, Reset, Delete}
use Rattle.occurrences.specs.declared.status.Status.TheVariants.{W, S, E, C, D}
use Rattle.external_dependencies.specs.declared.rows.PlacedRow.{PlacedRow}
use Rattle.planner_machine.specs.declared.content.Draft.{Draft}
use Rattle.planner_machine.specs.Act.{acted, acted_status}
use Rattle.planner_machine.specs.Content.{Sets, IsOnlyAt}
use Rattle.planner_machine.specs.Drafts.{NamesDraft}
use Rattle.planner_machine.specs.Fate.{ActionFate, DailyFate, DeletionFate, Fate, IsGenerated, ModifyFate, Stays}
use Rattle.planner_machine.specs.Fate.{place_after_action, place_after_daily_plan, place_after_deletion}
use Rattle.planner_machine.specs.Laws.{Follows}
use Rattle.planner_machine.specs.Moves.{has_key, numbered_row}
use Rattle.planner_machine.proofs.ActionLemmas.{action_live}
use Rattle.planner_machine.proofs.DailyLemmas.{daily_live}
use Rattle.planner_machine.proofs.DeleteLemmas.{delete_live}
use Rattle.planner_machine.specs.RowsSound.{RowsSound}
use Rattle.planner_machine.proofs.SeatLemmas.{cases_issued, going, not_empty, one_place}

-- the row of a draft of the list, under a new serial
pub record IsMadeAt (place : Place) (drafts : List Draft) (s : Sets) (serial : ℕ) (q : PlacedRow) : Type 0 where
  pub draft : Draft
  pub listed : Contains drafts draft
  pub new : s.issued < serial
  pub is : q ≡ record { row = numbered_row serial draft; place = place }

module _ (place : Place) (fate : Fate) (drafts : List Draft) (s s' : Sets) (sound : RowsSound s)
    (sound' : RowsSound s') (f : Follows place fate drafts s s') where
  new_at : (serial k : ℕ) (q : PlacedRow) (draft : Draft) → slice_get drafts k ≡ Some draft → k < length drafts
      → s.issued + 1 + k ≡ serial → IsOnlyAt s' serial q → IsMadeAt place drafts s serial q
  new_at serial k q draft is lt at there = record {
    draft = draft;
    listed = (k, lt, get_or_from_slice_get drafts k draft draft is);
    new = omega arith;
    is = one_place s' serial q _ there (subst (λ n. IsOnlyAt s' n (record {
      row = numbered_row n draft;
      place = place;
    })) at (f.new k draft is));
  }

  pub came : (serial : ℕ) (q : PlacedRow) → IsOnlyAt s' serial q → ((p : PlacedRow) × IsOnlyAt s serial p × fate p q)
      ⊎ IsMadeAt place drafts s serial q
  came serial q there = elim (cases_issued s'.issued serial) [
    | inr past ↦ absurd (not_empty s' serial q there (sound'.unissued serial past))
    | inl within ↦ elim (cases_lt s.issued serial) [
      | inr old ↦
          let (p, was) = sound.placed serial within.0 old in
          let (o, goes, at) = f.old serial p was in
          inl (p, was, subst (fate p) (one_place s' serial o q at there) goes)
      | inl new ↦
          let issues = f.issues in
          elim (slice_get_cases drafts (serial - suc s.issued)).1 [
            | inl (draft, lt, is, at) ↦ inr (new_at serial (serial - suc s.issued) q draft is lt (omega arith) there)
            | inr past ↦ absurd (omega (arith, past.0))
          ]
    ]
  ]

-- in the long-term plan or the current plan
abbrev pub IsInPlans : Place → Type 0
IsInPlans LongTerm = Unit {0}
IsInPlans (Current status) = Unit {0}
IsInPlans History = ⊥
IsInPlans (Deleted reason) = ⊥

-- what every fate keeps
pub record FateKeeps (fate : Fate) : Type 0 where
  pub key : (p q : PlacedRow) → fate p q → q.row.key ≡ p.row.key
  pub serial : (p q : PlacedRow) → fate p q → q.row.serial ≡ p.row.serial
  pub generated : (p q : PlacedRow) → fate p q → IsGenerated q.row.origin → IsGenerated p.row.origin
  pub added : (p q : PlacedRow) → fate p q → IsGenerated p.row.origin → IsGenerated q.row.origin
  pub ltp : (p q : PlacedRow) → fate p q → q.place ≡ LongTerm → p.place ≡ LongTerm
  pub planned : (p q : PlacedRow) → fate p q → IsInPlans q.place → IsInPlans p.place
  pub live : (p q : PlacedRow) → fate p q → IsLive q.place → IsLive p.place
  pub complete : (p q : PlacedRow) → fate p q → IsComplete p.place → IsComplete q.place

module _ (go : Row → Place → Place) (ltp : (row : Row) (was : Place) → go row was ≡ LongTerm
    → was ≡ LongTerm) (planned : (row : Row) (was : Place) → IsInPlans (go row was)
    → IsInPlans was) (live : (row : Row) (was : Place) → IsLive (go row was)
    → IsLive was) (complete : (row : Row) (was : Place) → IsComplete was → IsComplete (go row was)) where
  going_keeps : FateKeeps (λ p q. q ≡ going go p)
  going_keeps = record {
    key = λ p q is. ap (λ (x : PlacedRow). x.row.key) is;
    serial = λ p q is. ap (λ (x : PlacedRow). x.row.serial) is;
    generated = λ p q is h. subst (λ (x : PlacedRow). IsGenerated x.row.origin) is h;
    added = λ p q is h. subst (λ (x : PlacedRow). IsGenerated x.row.origin) (sym is) h;
    ltp = λ p q is h. ltp p.row p.place (ap (λ (x : PlacedRow). x.place) (sym is) ∙ h);
    planned = λ p q is h. planned p.row p.place (subst (λ (x : PlacedRow). IsInPlans x.place) is h);
    live = λ p q is h. live p.row p.place (subst (λ (x : PlacedRow). IsLive x.place) is h);
    complete = λ p q is h. subst (λ (x : PlacedRow). IsComplete x.place) (sym is) (complete p.row p.place h);
  }

abbrev stay_at : Row → Place → Place
stay_at row place = place

pub stays_keeps : FateKeeps Stays
stays_keeps = going_keeps stay_at (λ row was h. h) (λ row was h. h) (λ row was h. h) (λ row was h. h)

daily_ltp : (t : ℕ) (row : Row) (was : Place) → place_after_daily_plan t row was ≡ LongTerm → was ≡ LongTerm
daily_ltp t row LongTerm h = refl
daily_ltp t row (Current W) h = cc
daily_ltp t row (Current S) h = cc
daily_ltp t row (Current E) h = cc
daily_ltp t row (Current C) h = cc
daily_ltp t row (Current D) h = cc
daily_ltp t row History h = h
daily_ltp t row (Deleted reason) h = h

daily_planned : (t : ℕ) (row : Row) (was : Place) → IsInPlans (place_after_daily_plan t row was) → IsInPlans was
daily_planned t row LongTerm h = tt
daily_planned t row (Current status) h = tt
daily_planned t row History h = h
daily_planned t row (Deleted reason) h = h

pub daily_completes : (t : ℕ) (row : Row) (was : Place) → IsComplete was → IsComplete (place_after_daily_plan t row was)
daily_completes t row LongTerm is = absurd is
daily_completes t row (Current W) is = cc
daily_completes t row (Current S) is = cc
daily_completes t row (Current E) is = cc
daily_completes t row (Current C) is = tt
daily_completes t row (Current D) is = cc
daily_completes t row History is = tt
daily_completes t row (Deleted reason) is = is

pub daily_keeps : (t : ℕ) → FateKeeps (DailyFate t)
daily_keeps t = going_keeps (place_after_daily_plan t) (daily_ltp t) (daily_planned t) (daily_live t)
    (daily_completes t)

-- a change of status
action_ltp : (key : Key) (action : Action) (row : Row) (was : Place)
    → place_after_action key action row was ≡ LongTerm → was ≡ LongTerm
action_ltp key action row LongTerm h = h
action_ltp key action row (Current status) h = cc
action_ltp key action row History h = h
action_ltp key action row (Deleted reason) h = h

action_planned : (key : Key) (action : Action) (row : Row) (was : Place)
    → IsInPlans (place_after_action key action row was) → IsInPlans was
action_planned key action row LongTerm h = h
action_planned key action row (Current status) h = tt
action_planned key action row History h = h
action_planned key action row (Deleted reason) h = h

stays_complete : (action : Action) (b : Bool) → (if b then acted_status action C else C) ≡ C
stays_complete action false = refl
stays_complete Start true = refl
stays_complete Complete true = refl
stays_complete Fail true = refl
stays_complete Reset true = refl
stays_complete Delete true = refl

action_completes : (key : Key) (action : Action) (row : Row) (was : Place) → IsComplete was
    → IsComplete (place_after_action key action row was)
action_completes key action row LongTerm is = is
action_completes key action row (Current status) is = ap (acted key action row) is
    ∙ stays_complete action (has_key key row)
action_completes key action row History is = is
action_completes key action row (Deleted reason) is = is

pub action_keeps : (key : Key) (action : Action) → FateKeeps (ActionFate key action)
action_keeps key action =
    going_keeps (place_after_action key action) (action_ltp key action) (action_planned key action)
    (action_live key action) (action_completes key action)

-- a deletion from the long-term plan
deletion_ltp : (key : Key) (row : Row) (was : Place) → place_after_deletion key row was ≡ LongTerm → was ≡ LongTerm
deletion_ltp key row LongTerm h = refl
deletion_ltp key row (Current status) h = h
deletion_ltp key row History h = h
deletion_ltp key row (Deleted reason) h = h

deletion_planned : (key : Key) (row : Row) (was : Place) → IsInPlans (place_after_deletion key row was) → IsInPlans was
deletion_planned key row LongTerm h = tt
deletion_planned key row (Current status) h = h
deletion_planned key row History h = h
deletion_planned key row (Deleted reason) h = h

deletion_completes : (key : Key) (row : Row) (was : Place) → IsComplete was
    → IsComplete (place_after_deletion key row was)
deletion_completes key row LongTerm is = absurd is
deletion_completes key row (Current status) is = is
deletion_completes key row History is = is
deletion_completes key row (Deleted reason) is = is

pub deletion_keeps : (key : Key) → FateKeeps (DeletionFate key)
deletion_keeps key = going_keeps (place_after_deletion key) (deletion_ltp key) (deletion_planned key)
    (delete_live key) (deletion_completes key)

-- a modify statement
pub draft_generated : (all : Definitions) (draft : Draft) → NamesDraft all draft → IsGenerated draft.origin
draft_generated all draft (app, x, named, is) = subst (λ (d : Draft). IsGenerated d.origin) (sym is) tt

module _ (Looks : List ℕ → Type 0) (all : Definitions) where
  -- by the two parts that change something, and the one that doesn't
  module _ (P : PlacedRow → PlacedRow → Type 0)
      (stamped : (row : Row) (draft : Draft) → IsGenerated row.origin → IsGenerated draft.origin
      → P (record {
        row = row;
        place = LongTerm;
      }) (record {
        row =
            record { key = row.key; serial = row.serial; deadline = draft.deadline; origin = draft.origin };
        place =
            LongTerm;
      }))
      (gone : (row : Row) → P (record { row = row; place = LongTerm }) (record {
        row = row;
        place = Deleted Withdrawn;
      }))
      (stays : (p : PlacedRow) → P p p) where
    pub by_modify : (p q : PlacedRow) → ModifyFate Looks all p q → P p q
    by_modify p q (inr (apart, is)) = subst (P p) (sym is) (stays p)
    by_modify p q (inl (at, inl named)) =
        let before : p ≡ record { row = p.row; place = LongTerm } = ap (λ x. record { row = p.row; place = x }) at.0 in
        subst (λ o. P o q) (sym before) (subst (P (record {
          row = p.row;
          place = LongTerm;
        })) (sym named.stays)
        (stamped p.row named.draft at.1 (draft_generated all named.draft named.named)))
    by_modify p q (inl (at, inr withdrawn)) =
        let before : p ≡ record { row = p.row; place = LongTerm } = ap (λ x. record { row = p.row; place = x }) at.0 in
        subst (λ o. P o q) (sym before) (subst (P (record {
          row = p.row;
          place = LongTerm;
        })) (sym withdrawn.goes) (gone p.row))

  pub modify_keeps_all : FateKeeps (ModifyFate Looks all)
  modify_keeps_all = record {
    key = by_modify (λ p q. q.row.key ≡ p.row.key) (λ row draft g h. refl) (λ row. refl) (λ p. refl);
    serial = by_modify (λ p q. q.row.serial ≡ p.row.serial) (λ row draft g h. refl) (λ row. refl) (λ p. refl);
    generated = by_modify (λ p q. IsGenerated q.row.origin
        → IsGenerated p.row.origin) (λ row draft g h _. g) (λ row h. h) (λ p h. h);
    added = by_modify (λ p q. IsGenerated p.row.origin
        → IsGenerated q.row.origin) (λ row draft g h _. h) (λ row h. h) (λ p h. h);
    ltp = by_modify (λ p q. q.place ≡ LongTerm
        → p.place ≡ LongTerm) (λ row draft g h k. refl) (λ row k. refl) (λ p k. k);
    planned = by_modify (λ p q. IsInPlans q.place → IsInPlans p.place) (λ row draft g h k. tt) (λ row k. tt) (λ p k. k);
    live = by_modify (λ p q. IsLive q.place → IsLive p.place) (λ row draft g h k. tt) (λ row k. tt) (λ p k. k);
    complete = by_modify (λ p q. IsComplete p.place
        → IsComplete q.place) (λ row draft g h k. absurd k) (λ row k. absurd k) (λ p k. k);
  }
