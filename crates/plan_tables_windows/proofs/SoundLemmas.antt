-- What follows of a content of which it is known that it is sound, and not how.
use Rattle.std.proofs.Common.{◌≡◌, ◌<◌, ℕ, false, true, inl, inr, None, Option, Some, ap, refl, subst}
use Rattle.std.proofs.Math.Logic.{∥∥₁_elim}
use Rattle.std.specs.Prelude.{◌||◌, is_some}
use Rattle.std.specs.List.{Contains}
use Rattle.std.proofs.lemmas.Bool.{false≢true}
use Rattle.occurrences.specs.declared.place.Place.TheVariants.{History}
use Rattle.occurrences.specs.declared.row.Row.{Row}
use Rattle.external_dependencies.specs.declared.pairs.Pair.{Pair}
use Rattle.planner_machine.specs.Content.{Content, Seat, Sets, IsOnlyAt}
use Rattle.planner_machine.specs.Sound.{AreNumbered, HaveOwnKeys, IsSound}
use Rattle.planner_machine.proofs.SeatLemmas.{not_empty}
use Rattle.plan_store.specs.Parts.{is_planned}
use Rattle.plan_store.proofs.PlaceLemmas.{stands_cp, stands_history, stands_ltp}
use Rattle.plan_tables_windows.proofs.PartSetLemmas.{deletion_found_set, no_prop, number_set, row_found_set}

-- each row of history stands under its own serial, and no two have one key
pub record HasOwnRows (s : Sets) : Type 0 where
  pub numbered : (serial : ℕ) (row : Row) → s.history serial ≡ Some row → row.serial ≡ serial
  pub own : (m n : ℕ) (a b : Row) → s.history m ≡ Some a → s.history n ≡ Some b → a.key ≡ b.key → m ≡ n

pub own_rows : (s : Sets) → AreNumbered s → HaveOwnKeys s → HasOwnRows s
own_rows s numbered own = record {
  numbered = λ serial row stands. numbered.numbered serial (record { row = row; place = History })
      (stands_history s numbered serial row stands);
  own = λ m n a b at_m at_n same. own m n (record { row = a; place = History }) (record { row = b; place = History })
      (stands_history s numbered m a at_m) (stands_history s numbered n b at_n) tt tt same;
}

pub own_sound : (c : Content) → ∥ IsSound c ∥₁ → HasOwnRows c.sets
own_sound c sound = record {
  numbered = λ serial row stands. ∥∥₁_elim sound (number_set _ _)
      (λ (h : IsSound c). (own_rows c.sets h.serials h.keys).numbered serial row stands);
  own = λ m n a b at_m at_n same. ∥∥₁_elim sound (number_set _ _)
      (λ (h : IsSound c). (own_rows c.sets h.serials h.keys).own m n a b at_m at_n same);
}

-- what stands in one of the plans stands nowhere else
is_found : {X : Type 0} (o : Option X) → is_some o ≡ true → (x : X) × (o ≡ Some x)
is_found None is = absurd (false≢true is)
is_found (Some x) is = (x, refl)

module _ (s : Sets) (numbered : AreNumbered s) (serial : ℕ) where
  in_ltp : is_some (s.ltp serial) ≡ true → (s.history serial ≡ None) × (s.deletions serial ≡ None)
  in_ltp is =
      let (row, stands) = is_found (s.ltp serial) is in
      let at = stands_ltp s numbered serial row stands in
      (ap (λ (x : Seat). x.history) at, ap (λ (x : Seat). x.deletions) at)

  in_cp : is_some (s.cp serial) ≡ true → (s.history serial ≡ None) × (s.deletions serial ≡ None)
  in_cp is =
      let (current, stands) = is_found (s.cp serial) is in
      let at = stands_cp s numbered serial current stands in
      (ap (λ (x : Seat). x.history) at, ap (λ (x : Seat). x.deletions) at)

  planned_alone : is_planned s serial ≡ true → (s.history serial ≡ None) × (s.deletions serial ≡ None)
  planned_alone is = elim (is_some (s.ltp serial)) as (λ b. is_some (s.ltp serial) ≡ b → (b || is_some (s.cp serial)) ≡ true
      → (s.history serial ≡ None) × (s.deletions serial ≡ None)) [
        | true ↦ λ there _. in_ltp there
        | false ↦ λ _ there. in_cp there
      ] refl is

  past_alone : s.issued < serial → (s.history serial ≡ None) × (s.deletions serial ≡ None)
  past_alone past =
      let at = numbered.unissued serial (inr past) in
      (ap (λ (x : Seat). x.history) at, ap (λ (x : Seat). x.deletions) at)

module _ (c : Content) (sound : ∥ IsSound c ∥₁) (serial : ℕ) where
  -- what is planned is not in history, and not deleted
  pub planned_history : is_planned c.sets serial ≡ true → c.sets.history serial ≡ None
  planned_history is = ∥∥₁_elim sound (row_found_set _ _)
      (λ (h : IsSound c). (planned_alone c.sets h.serials serial is).0)

  pub planned_deletions : is_planned c.sets serial ≡ true → c.sets.deletions serial ≡ None
  planned_deletions is = ∥∥₁_elim sound (deletion_found_set _ _)
      (λ (h : IsSound c). (planned_alone c.sets h.serials serial is).1)

  -- nor is what is not issued
  pub past_history : c.sets.issued < serial → c.sets.history serial ≡ None
  past_history past = ∥∥₁_elim sound (row_found_set _ _)
      (λ (h : IsSound c). (past_alone c.sets h.serials serial past).0)

  pub past_deletions : c.sets.issued < serial → c.sets.deletions serial ≡ None
  past_deletions past = ∥∥₁_elim sound (deletion_found_set _ _)
      (λ (h : IsSound c). (past_alone c.sets h.serials serial past).1)

  -- which no pair has as its successor
  pub past_pairs : c.sets.issued < serial → (pair : Pair) → Contains c.pairs pair → pair.successor ≡ serial → ⊥
  past_pairs past pair there of = ∥∥₁_elim sound no_prop (λ (h : IsSound c).
      let empty = h.serials.unissued serial (inr past) in
      elim ((h.pairs.settled.exactly pair).0 there) [
        | inl waits ↦ not_empty c.sets serial waits.placed (subst (λ n. IsOnlyAt c.sets n waits.placed) of waits.stands)
            empty
        | inr kept ↦ not_empty c.sets serial kept.placed (subst (λ n. IsOnlyAt c.sets n kept.placed) of kept.stands) empty
      ])
