-- What lists have that have a part of history and of the deletions, and what they have once a row is brought into them.
use Rattle.std.proofs.Common.{◌≡◌, ◌<◌, ◌∙◌, ℕ, false, true, None, Option, Some, ap, refl, subst, sym}
use Rattle.std.proofs.Math.Logic.{∥∥₁_elim}
use Rattle.std.specs.Prelude.{if◌then◌else◌, nat_eq}
use Rattle.std.proofs.lemmas.Bool.{eq-eqb, eqb-true}
use Rattle.occurrences.specs.declared.key.Key.{Key}
use Rattle.occurrences.specs.declared.place.Deletion.{Deletion}
use Rattle.occurrences.specs.declared.row.Row.{Row}
use Rattle.planner_machine.specs.Content.{Content}
use Rattle.planner_machine.specs.Moves.{or_else}
use Rattle.planner_machine.specs.Sound.{IsSound}
use Rattle.plan_store.specs.Parts.{IsPartOf, Knows, KnowsDeletion, Rest, is_planned, or_this, with_completed, with_deleted}
use Rattle.plan_store.specs.Parts.{with_rest}
use Rattle.plan_store.specs.declared.changes.Change.{Change}
use Rattle.plan_tables_windows.specs.Changes.{KnowsNamed}
use Rattle.plan_tables_windows.specs.Windows.{KnowsLive}
use Rattle.plan_tables_windows.proofs.PartSetLemmas.{deletion_found_set, row_found_set}
use Rattle.plan_tables_windows.proofs.SoundLemmas.{past_deletions, past_history, planned_deletions, planned_history}

-- ---- what is known as a mere fact is known

module _ (rest : Rest) (c : Content) where
  pub known_is : (serial : ℕ) → ∥ Knows rest c serial ∥₁ → Knows rest c serial
  known_is serial knows = ∥∥₁_elim knows (row_found_set _ _) (λ h. h)

  pub part_is : ∥ IsPartOf rest c ∥₁ → IsPartOf rest c
  part_is part = record {
    history = λ serial row stands. ∥∥₁_elim part (row_found_set _ _)
        (λ (h : IsPartOf rest c). h.history serial row stands);
    deletions = λ serial deletion stands. ∥∥₁_elim part (deletion_found_set _ _)
        (λ (h : IsPartOf rest c). h.deletions serial deletion stands);
    named = λ pair there planned. ∥∥₁_elim part (row_found_set _ _)
        (λ (h : IsPartOf rest c). h.named pair there planned);
    bars = λ serial deletion stands barred. ∥∥₁_elim part (deletion_found_set _ _)
        (λ (h : IsPartOf rest c). h.bars serial deletion stands barred);
  }

  pub live_known_is : (key : Key) → ∥ KnowsLive rest key c ∥₁ → KnowsLive rest key c
  live_known_is key knows serial row stands keyed pair there of = ∥∥₁_elim knows (row_found_set _ _)
      (λ (h : KnowsLive rest key c). h serial row stands keyed pair there of)

  pub named_is : (change : Change) → ∥ KnowsNamed rest change c ∥₁ → KnowsNamed rest change c
  named_is change knows = record {
    gone = λ row there. ∥∥₁_elim knows (row_found_set _ _) (λ (h : KnowsNamed rest change c). h.gone row there);
    changed = λ row there. ∥∥₁_elim knows (row_found_set _ _) (λ (h : KnowsNamed rest change c). h.changed row there);
    gone_deletions = λ deletion there. ∥∥₁_elim knows (deletion_found_set _ _)
        (λ (h : KnowsNamed rest change c). h.gone_deletions deletion there);
    changed_deletions = λ deletion there. ∥∥₁_elim knows (deletion_found_set _ _)
        (λ (h : KnowsNamed rest change c). h.changed_deletions deletion there);
    added = λ pair there. ∥∥₁_elim knows (row_found_set _ _) (λ (h : KnowsNamed rest change c). h.added pair there);
    ltp = λ row there pair has of. ∥∥₁_elim knows (row_found_set _ _)
        (λ (h : KnowsNamed rest change c). h.ltp row there pair has of);
    cp = λ current there pair has of. ∥∥₁_elim knows (row_found_set _ _)
        (λ (h : KnowsNamed rest change c). h.cp current there pair has of);
    bars = λ serial deletion stands barred. ∥∥₁_elim knows (deletion_found_set _ _)
        (λ (h : KnowsNamed rest change c). h.bars serial deletion stands barred);
  }

-- ---- what is known without a look

some_none : {X : Type 0} (o : Option X) (x : X) → o ≡ Some x → o ≡ None → ⊥
some_none o x some none = cc

-- a part of nothing is nothing
pub lacks_part : {X : Type 0} (part whole : Option X) → ((x : X) → part ≡ Some x → whole ≡ Some x) → whole ≡ None
    → part ≡ whole
lacks_part None whole of none = sym none
lacks_part (Some x) whole of none = absurd (some_none whole x (of x refl) none)

has_part : {X : Type 0} (part whole : Option X) (x : X) → ((y : X) → part ≡ Some y → whole ≡ Some y) → part ≡ Some x
    → part ≡ whole
has_part part whole x of is = is ∙ sym (of x is)

module _ (rest : Rest) (c : Content) (part : IsPartOf rest c) (serial : ℕ) where
  -- nothing stands there
  pub lacking_known : rest.history serial ≡ None → Knows rest c serial
  lacking_known none = lacks_part (c.sets.history serial) (rest.history serial) (part.history serial) none

  pub lacking_deletion_known : rest.deletions serial ≡ None → KnowsDeletion rest c serial
  lacking_deletion_known none = lacks_part (c.sets.deletions serial) (rest.deletions serial) (part.deletions serial) none

  -- the lists have it
  pub listed_known : (row : Row) → c.sets.history serial ≡ Some row → Knows rest c serial
  listed_known row is = has_part (c.sets.history serial) (rest.history serial) row (part.history serial) is

  pub listed_deletion_known : (deletion : Deletion) → c.sets.deletions serial ≡ Some deletion
      → KnowsDeletion rest c serial
  listed_deletion_known deletion is = has_part (c.sets.deletions serial) (rest.deletions serial) deletion
      (part.deletions serial) is

  module _ (sound : ∥ IsSound (with_rest rest c) ∥₁) where
    -- it is planned
    pub planned_known : is_planned c.sets serial ≡ true → Knows rest c serial
    planned_known is = lacking_known (planned_history (with_rest rest c) sound serial is)

    pub planned_deletion_known : is_planned c.sets serial ≡ true → KnowsDeletion rest c serial
    planned_deletion_known is = lacking_deletion_known (planned_deletions (with_rest rest c) sound serial is)

    -- it is not issued
    pub past_known : c.sets.issued < serial → Knows rest c serial
    past_known past = lacking_known (past_history (with_rest rest c) sound serial past)

    pub past_deletion_known : c.sets.issued < serial → KnowsDeletion rest c serial
    past_deletion_known past = lacking_deletion_known (past_deletions (with_rest rest c) sound serial past)

-- ---- what is brought

-- what stands under a serial with one more is what stood, or that one
module _ {X : Type 0} (set whole : ℕ → Option X) (number : ℕ) (x : X) (is : whole number ≡ Some x) where
  -- it is a part still
  pub brought_part : ((serial : ℕ) (y : X) → set serial ≡ Some y → whole serial ≡ Some y) → (serial : ℕ) (y : X)
      → or_this set number x serial ≡ Some y → whole serial ≡ Some y
  brought_part part serial y stands = elim (set serial) as (λ o. set serial ≡ o
      → or_else o (if nat_eq number serial then Some x else None) ≡ Some y → whole serial ≡ Some y) [
        | Some z ↦ λ was here. part serial y (was ∙ here)
        | None ↦ λ _ here. elim (nat_eq number serial) as (λ b. nat_eq number serial ≡ b
            → (if b then Some x else None) ≡ Some y → whole serial ≡ Some y) [
              | true ↦ λ same this. subst (λ n. whole n ≡ Some y) (eqb-true number serial same) (is ∙ this)
              | false ↦ λ _ none. absurd (some_none None y none refl)
            ] refl here
      ] refl stands

  -- what was known stays known
  pub brought_known : (serial : ℕ) → set serial ≡ whole serial → or_this set number x serial ≡ whole serial
  brought_known serial known = elim (set serial) as (λ o. set serial ≡ o
      → or_else o (if nat_eq number serial then Some x else None) ≡ whole serial) [
        | Some z ↦ λ was. sym was ∙ known
        | None ↦ λ was. elim (nat_eq number serial) as (λ b. nat_eq number serial ≡ b
            → (if b then Some x else None) ≡ whole serial) [
              | true ↦ λ same. absurd (some_none (whole serial) x
                  (subst (λ n. whole n ≡ Some x) (eqb-true number serial same) is) (sym known ∙ was))
              | false ↦ λ _. sym was ∙ known
            ] refl
      ] refl

  -- and the one that is brought is known
  pub brought_here : ((serial : ℕ) (y : X) → set serial ≡ Some y → whole serial ≡ Some y)
      → or_this set number x number ≡ Some x
  brought_here part = elim (set number) as (λ o. set number ≡ o
      → or_else o (if nat_eq number number then Some x else None) ≡ Some x) [
        | Some z ↦ λ was. sym (part number z was) ∙ is
        | None ↦ λ _. ap (λ b. if b then Some x else None) (eq-eqb number number refl)
      ] refl

-- what stood stands still
pub stood_still : {X : Type 0} (set : ℕ → Option X) (number : ℕ) (x : X) (serial : ℕ) (y : X) → set serial ≡ Some y
    → or_this set number x serial ≡ Some y
stood_still set number x serial y is =
    ap (λ o. or_else o (if nat_eq number serial then Some x else None)) is

module _ (rest : Rest) (c : Content) (row : Row) (stands : rest.history row.serial ≡ Some row) where
  pub completed_knows : (serial : ℕ) → Knows rest c serial → Knows rest (with_completed row c) serial
  completed_knows serial knows = brought_known c.sets.history rest.history row.serial row stands serial knows

  pub completed_part : IsPartOf rest c → IsPartOf rest (with_completed row c)
  completed_part part = record {
    history = brought_part c.sets.history rest.history row.serial row stands part.history;
    deletions = part.deletions;
    named = λ pair there planned. completed_knows pair.predecessor (part.named pair there planned);
    bars = part.bars;
  }

  pub completed_has : IsPartOf rest c → (with_completed row c).sets.history row.serial ≡ Some row
  completed_has part = brought_here c.sets.history rest.history row.serial row stands part.history

  pub completed_known : IsPartOf rest c → Knows rest (with_completed row c) row.serial
  completed_known part = completed_has part ∙ sym stands

module _ (rest : Rest) (c : Content) (deletion : Deletion)
    (stands : rest.deletions deletion.row.serial ≡ Some deletion) where
  pub deleted_part : IsPartOf rest c → IsPartOf rest (with_deleted deletion c)
  deleted_part part = record {
    history = part.history;
    deletions = brought_part c.sets.deletions rest.deletions deletion.row.serial deletion stands part.deletions;
    named = part.named;
    bars = λ serial other at barred. stood_still c.sets.deletions deletion.row.serial deletion serial other
        (part.bars serial other at barred);
  }

  pub deleted_has : IsPartOf rest c → (with_deleted deletion c).sets.deletions deletion.row.serial ≡ Some deletion
  deleted_has part = brought_here c.sets.deletions rest.deletions deletion.row.serial deletion stands part.deletions
