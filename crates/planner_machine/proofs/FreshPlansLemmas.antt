-- What an accepted statement on the plans owes so that fresh content stays fresh.
use Rattle.std.proofs.Common.{List, Some, [], ap, arith, false, inl, refl, subst, suc, sym, true, zero, ℕ, ◌+◌}
use Rattle.std.proofs.Common.{◌<◌, ◌∙◌, ◌∷◌, ◌≡◌, ◌≤◌}
use Rattle.std.proofs.lemmas.Bool.{le-ltb}
use Rattle.std.specs.Prelude.{Bool, Contains, if◌then◌else◌, nat_lt, option_map}
use Rattle.app_definitions.specs.declared.definitions.Definitions.{Definitions}
use Rattle.external_dependencies.specs.declared.rows.PlacedRow.{PlacedRow}
use Rattle.occurrences.specs.declared.key.Key.{Key}
use Rattle.occurrences.specs.declared.place.Place.{Place}
use Rattle.occurrences.specs.declared.place.Place.TheVariants.{Current, Deleted, LongTerm}
use Rattle.occurrences.specs.declared.place.Reason.TheVariants.{Operator}
use Rattle.occurrences.specs.declared.row.Row.{Row}
use Rattle.occurrences.specs.declared.status.Status.TheVariants.{W}
use Rattle.planner_machine.specs.Content.{Content, IsOnlyAt, Sets, midnight}
use Rattle.planner_machine.specs.DailyPlan.{daily}
use Rattle.planner_machine.specs.Drafts.{NamesDraft, added}
use Rattle.planner_machine.specs.Fate.{DailyFate, Fate, IsGenerated, Stays, place_after_daily_plan}
use Rattle.planner_machine.specs.Fresh.{IsFresh, draft_of_row}
use Rattle.planner_machine.specs.Laws.{Follows}
use Rattle.planner_machine.specs.Sound.{IsSound}
use Rattle.planner_machine.specs.declared.content.Bounds.{Bounds}
use Rattle.planner_machine.specs.declared.content.Draft.{Draft}
use Rattle.planner_machine.proofs.DailyLemmas.{daily_follows}
use Rattle.planner_machine.proofs.FollowLemmas.{daily_keeps, stays_keeps}
use Rattle.planner_machine.proofs.FreshLemmas.{Leaves, carried, fresh_of, named_after}
use Rattle.planner_machine.proofs.SoundLemmas.{rows_sound}

-- the fates that leave rows as they are
module _ (go : Row → Place → Place) (p q : PlacedRow) (is : q ≡ record { row = p.row; place = go p.row p.place }) where
  pub gone_so : (was now : Place) → p.place ≡ was → go p.row was ≡ now → q ≡ record { row = p.row; place = now }
  gone_so was now at goes = is ∙ ap (λ (x : Place). record { row = p.row; place = go p.row x }) at
      ∙ ap (λ (x : Place). record { row = p.row; place = x }) goes

  pub stays_so : (was : Place) → p.place ≡ was → go p.row was ≡ was → q ≡ p
  stays_so was at goes = gone_so was was at goes ∙ ap (λ (x : Place). record { row = p.row; place = x }) (sym at)

pub stays_leaves : (from : ℕ) → Leaves Stays from
stays_leaves from = record {
  keeps = stays_keeps;
  row = λ p q is. ap (λ (x : PlacedRow). x.row) is;
  ltp = λ p q is _ _. inl is;
  deleted = λ p q is _. is;
}

daily_leaves : (t : ℕ) → Leaves (DailyFate t) t
daily_leaves t = record {
  keeps = daily_keeps t;
  row = λ p q is. ap (λ (x : PlacedRow). x.row) is;
  ltp = λ p q is at late. inl (stays_so (place_after_daily_plan t) p q is LongTerm at
      (later (nat_lt p.row.key.ia t) (le-ltb p.row.key.ia t late)));
  deleted = λ p q is at. stays_so (place_after_daily_plan t) p q is (Deleted Operator) at refl;
}
  where
    later : (b : Bool) → b ≡ false → (if b then Current W else LongTerm) ≡ LongTerm
    later true is = cc
    later false is = refl

-- the bounds of fresh content
pub one_bounds : (s : Sets) (a b : Bounds) → s.bounds ≡ Some a → s.bounds ≡ Some b → a ≡ b
one_bounds s a b is is' = let whole : Some a ≡ Some b = sym is ∙ is' in cc

-- a statement that leaves rows and definitions as they are, and makes nothing that a run cycle names
module _ (fate : Fate) (from : ℕ) (leaves : Leaves fate from) (place : Place) (drafts : List Draft) (c c' : Content)
    (sound : IsSound c) (sound' : IsSound c') (f : Follows place fate drafts c.sets c'.sets)
    (same : c'.definitions ≡ c.definitions) (fresh : IsFresh c)
    (made : (draft : Draft) → Contains drafts draft → place ≡ LongTerm → IsGenerated draft.origin
    → NamesDraft c.definitions draft) where
  pub named_so : (serial : ℕ) (row : Row) → IsOnlyAt c'.sets serial (record { row = row; place = LongTerm })
      → IsGenerated row.origin → NamesDraft c'.definitions (draft_of_row row)
  named_so serial row there generated = subst (λ (all : Definitions). NamesDraft all (draft_of_row row)) (sym same)
      (named_after fate from leaves place drafts c.definitions c.sets c'.sets (rows_sound c sound)
      (rows_sound c' sound') f made
      (λ serial row there generated. (fresh.named serial row there generated).0) serial row there generated)

  -- where the plan's part of the days is no wider
  still_fresh : (b' : Bounds) → c'.sets.bounds ≡ Some b' → from ≤ b'.plan_end → fresh.bounds.plan_end ≤ b'.plan_end
      → b'.last_day ≡ fresh.bounds.last_day → IsFresh c'
  still_fresh b' is' late later last = fresh_of c' sound' b' is' named_so (λ draft names.
      let after = names.1 in
      let until : draft.key.ia < midnight (fresh.bounds.last_day + 1) =
      subst (λ n. draft.key.ia < midnight (n + 1)) last names.2 in
      let names_before : NamesDraft c.definitions draft =
      subst (λ (all : Definitions). NamesDraft all draft) same names.0 in
      carried fate from leaves place drafts c.sets c'.sets f draft (omega arith)
      (fresh.stands draft (names_before, omega arith, until)))

pub no_drafts_named : (place : Place) (all : Definitions) (draft : Draft) → Contains [] draft → place ≡ LongTerm
    → IsGenerated draft.origin → NamesDraft all draft
no_drafts_named place all draft (k, lt, is) at generated = absurd (omega (arith, lt))

pub added_not_named : (key : Key) (place : Place) (all : Definitions) (draft : Draft) → Contains (added key ∷ []) draft
    → place ≡ LongTerm → IsGenerated draft.origin → NamesDraft all draft
added_not_named key place all draft (zero, lt, is) at generated =
    absurd (subst (λ (d : Draft). IsGenerated d.origin) (sym is) generated)
added_not_named key place all draft (suc k, lt, is) at generated = absurd (omega (arith, lt))

pub same_bounds_fresh : (fate : Fate) (place : Place) (drafts : List Draft) (c c' : Content) (sound : IsSound c)
    (sound' : IsSound c') (f : Follows place fate drafts c.sets c'.sets) (same : c'.definitions ≡ c.definitions)
    (fresh : IsFresh c) → Leaves fate fresh.bounds.plan_end
    → ((draft : Draft) → Contains drafts draft → place ≡ LongTerm → IsGenerated draft.origin
    → NamesDraft c.definitions draft)
    → c'.sets.bounds ≡ c.sets.bounds → IsFresh c'
same_bounds_fresh fate place drafts c c' sound sound' f same fresh leaves made bounds =
    still_fresh fate fresh.bounds.plan_end leaves place drafts c c' sound sound' f same fresh made fresh.bounds
    (bounds ∙ fresh.planned) (omega arith) (omega arith) refl

-- a daily plan to t: each occurrence goes by its fate, and what was fresh stays so where the plan end is no earlier
pub planned_follows : (t : ℕ) (c c' : Content) → IsSound c → c'.sets ≡ daily t c.sets
    → Follows LongTerm (DailyFate t) [] c.sets c'.sets
planned_follows t c c' sound becomes = subst (λ (s : Sets). Follows LongTerm (DailyFate t) [] c.sets s) (sym becomes)
    (daily_follows t LongTerm c.sets (rows_sound c sound))

pub planned_fresh : (t : ℕ) (c c' : Content) → IsSound c → IsSound c' → c'.sets ≡ daily t c.sets
    → c'.definitions ≡ c.definitions → (fresh : IsFresh c) → fresh.bounds.plan_end ≤ t → IsFresh c'
planned_fresh t c c' sound sound' becomes same fresh later =
    still_fresh (DailyFate t) t (daily_leaves t) LongTerm [] c c' sound sound' (planned_follows t c c' sound becomes)
    same fresh (no_drafts_named LongTerm c.definitions) (record fresh.bounds { plan_end = t })
    (ap (λ (s : Sets). s.bounds) becomes
    ∙ ap (option_map (λ (b : Bounds). record b { plan_end = t })) fresh.planned) (omega arith) later refl
