-- The rows that were found of history complete the lists for a listing of the pairs of one application.
use Rattle.std.proofs.Common.{◌≡◌, ◌↔◌, ◌∙◌, ℕ, List, refl, sym, ap, ap₂, subst, inl, inr, Some, None, Option}
use Rattle.std.specs.List.{Contains}
use Rattle.std.specs.List.Sorted.{IsSortedByKey}
use Rattle.std.specs.Ordering.{nat_cmp}
use Rattle.occurrences.specs.Place.{IsComplete, IsLive, IsOpen}
use Rattle.occurrences.specs.declared.place.CurrentRow.{CurrentRow}
use Rattle.occurrences.specs.declared.place.Deletion.{Deletion}
use Rattle.occurrences.specs.declared.place.Place.{Place}
use Rattle.occurrences.specs.declared.place.Place.TheVariants.{LongTerm, Current, History, Deleted}
use Rattle.occurrences.specs.declared.place.Reason.{Reason}
use Rattle.occurrences.specs.declared.row.Row.{Row}
use Rattle.external_dependencies.specs.declared.live.Arrival.{Arrival}
use Rattle.external_dependencies.specs.declared.pairs.Pair.{Pair}
use Rattle.external_dependencies.specs.declared.rows.PlacedRow.{PlacedRow}
use Rattle.planner_machine.specs.Content.{Content, Seat, Sets, IsOnlyAt, alone, seat}
use Rattle.planner_machine.specs.Moves.{or_else}
use Rattle.planner_machine.specs.Sound.{AreNumbered, IsSound}
use Rattle.planner_machine.proofs.SeatLemmas.{one_place}
use Rattle.plan_store_lists.specs.Rows.{OneEach, look_up}
use Rattle.plan_store_lists.proofs.LookLemmas.{look_at, look_lacks, look_none, look_some}
use Rattle.plan_store.specs.AppPairs.{AreUnknownEnds, HasEnds, with_others}
use Rattle.plan_store.specs.Ends.{HasFound}
use Rattle.plan_store.specs.Listed.{row_at, row_in}
use Rattle.plan_store.specs.Parts.{IsPartOf, Rest, with_rest}
use Rattle.plan_store.specs.Views.{row_serial}
use Rattle.plan_store.proofs.PlaceLemmas.{none_some, some_is, stands_cp, stands_deleted, stands_ltp}
use Rattle.plan_store.proofs.ShownLemmas.{row_at_some, row_at_stands}

-- ---- the ends of a pair of a sound content are not deleted

module _ (c : Content) (sound : IsSound c) (pair : Pair) (there : Contains c.pairs pair) (row : Row) (reason : Reason)
  where
    abbrev gone : PlacedRow
    gone = record { row = row; place = Deleted reason }

    pub successor_stays : seat c.sets pair.successor ≡ alone row (Deleted reason) → ⊥
    successor_stays at = elim ((sound.pairs.settled.exactly pair).0 there) [
      | inl waits ↦ subst (λ (p : PlacedRow). IsOpen p.place)
          (one_place c.sets pair.successor waits.placed gone waits.stands at) waits.waits
      | inr kept ↦ subst (λ (p : PlacedRow). IsLive p.place)
          (one_place c.sets pair.successor kept.placed gone kept.stands at) kept.live
    ]

    pub predecessor_stays : seat c.sets pair.predecessor ≡ alone row (Deleted reason) → ⊥
    predecessor_stays at = elim ((sound.pairs.settled.exactly pair).0 there) [
      | inl waits ↦
          let (serial, p, stands, live, arrives) = waits.nearest.live in
          let same : serial ≡ pair.predecessor = sym (sound.serials.numbered serial p stands)
          ∙ ap (λ (a : Arrival). a.serial) arrives ∙ waits.predecessor in
          subst (λ (q : PlacedRow). IsLive q.place) (one_place c.sets pair.predecessor p gone
          (subst (λ n. IsOnlyAt c.sets n p) same stands) at) live
      | inr kept ↦
          let (p, stands, complete) = sound.pairs.complete pair there
          (kept.placed, kept.stands, kept.live, kept.waits_no_more) in
          subst (λ (q : PlacedRow). IsComplete q.place) (one_place c.sets pair.predecessor p gone stands at) complete
    ]

-- ---- lists and the rows that were found

module _ (app : List ℕ) (rest : Rest) (lists : Content) (found : List Row)
    (rising : IsSortedByKey row_serial nat_cmp found) (sound : IsSound (with_rest rest lists))
    (part : IsPartOf rest lists) (has : HasFound app lists rest.history found) where
  abbrev whole : Content
  whole = with_rest rest lists

  abbrev s : Sets
  s = whole.sets

  abbrev seen : Sets
  seen = with_others found lists.sets

  abbrev numbered : AreNumbered s
  numbered = sound.serials

  one_each : OneEach row_serial found
  one_each x y at_x at_y same = some_is (rest.history y.serial) x y
      (subst (λ n. rest.history n ≡ Some x) same (has.only x at_x)) (has.only y at_y)

  history_is : (n : ℕ) (row : Row) → or_else (lists.sets.history n) (look_up row_serial found n) ≡ Some row
      → rest.history n ≡ Some row
  history_is n row = elim (lists.sets.history n) as (λ h. lists.sets.history n ≡ h
      → or_else h (look_up row_serial found n) ≡ Some row → rest.history n ≡ Some row) [
        | Some x ↦ λ e is. let this : x ≡ row = cc in part.history n row (e ∙ ap Some this)
        | None ↦ λ e is.
            let there = look_some row_serial found n row is in
            subst (λ k. rest.history k ≡ Some row) there.1 (has.only row there.0)
      ] refl

  is_history : (n : ℕ) (row : Row) → rest.history n ≡ Some row → row.serial ≡ n → row.key.app ≡ app
      → or_else (lists.sets.history n) (look_up row_serial found n) ≡ Some row
  is_history n row is own of = elim (lists.sets.history n) as (λ h. lists.sets.history n ≡ h
      → or_else h (look_up row_serial found n) ≡ Some row) [
        | Some x ↦ λ e. ap Some (some_is (rest.history n) x row (part.history n x e) is)
        | None ↦ λ e. look_at row_serial found one_each row n
            (has.of_app row (subst (λ k. rest.history k ≡ Some row) (sym own) is) of) own
      ] refl

  only : (n : ℕ) (row : Row) → row_at seen n ≡ Some row → row_at s n ≡ Some row
  only n row is = by_set (lists.sets.ltp n) (lists.sets.cp n)
      (or_else (lists.sets.history n) (look_up row_serial found n)) (lists.sets.deletions n) refl refl refl refl is
    where
      by_set : (a : Option Row) (b : Option CurrentRow) (h : Option Row) (d : Option Deletion) → lists.sets.ltp n ≡ a
          → lists.sets.cp n ≡ b → or_else (lists.sets.history n) (look_up row_serial found n) ≡ h
          → lists.sets.deletions n ≡ d → row_in a b h d ≡ Some row → row_at s n ≡ Some row
      by_set (Some x) b h d at_ltp at_cp at_history at_deletions is =
          row_at_stands s n (record { row = x; place = LongTerm }) (stands_ltp s numbered n x at_ltp) ∙ is
      by_set None (Some x) h d at_ltp at_cp at_history at_deletions is =
          row_at_stands s n (record { row = x.row; place = Current x.status }) (stands_cp s numbered n x at_cp) ∙ is
      by_set None None (Some x) d at_ltp at_cp at_history at_deletions is =
          ap₂ (λ o p. row_in o p (rest.history n) (rest.deletions n)) at_ltp at_cp
          ∙ ap (λ o. row_in None None o (rest.deletions n)) (history_is n x at_history) ∙ is
      by_set None None None (Some x) at_ltp at_cp at_history at_deletions is =
          row_at_stands s n (record { row = x.row; place = Deleted x.reason })
          (stands_deleted s numbered n x (part.deletions n x at_deletions)) ∙ is
      by_set None None None None at_ltp at_cp at_history at_deletions is = cc

  seen_ltp : (n : ℕ) (row : Row) → seat s n ≡ alone row LongTerm → row_at seen n ≡ Some row
  seen_ltp n row at = ap (λ (x : Seat). row_in x.ltp (lists.sets.cp n)
      (or_else (lists.sets.history n) (look_up row_serial found n)) (lists.sets.deletions n)) at

  seen_cp : (n : ℕ) (row : Row) (x : CurrentRow) → x.row ≡ row → lists.sets.ltp n ≡ None
      → lists.sets.cp n ≡ Some x → row_at seen n ≡ Some row
  seen_cp n row x is past at = ap₂ (λ o p. row_in o p (or_else (lists.sets.history n) (look_up row_serial found n))
      (lists.sets.deletions n)) past at ∙ ap Some is

  successors : (pair : Pair) (row : Row) → Contains lists.pairs pair → row_at s pair.successor ≡ Some row
      → row.key.app ≡ app → row_at seen pair.successor ≡ Some row
  successors pair row there is of = let (place, at) = row_at_some s numbered pair.successor row is in by_place place at
    where
      n : ℕ
      n = pair.successor

      by_place : (place : Place) → seat s n ≡ alone row place → row_at seen n ≡ Some row
      by_place LongTerm at = seen_ltp n row at
      by_place (Current status) at = seen_cp n row (record { row = row; status = status }) refl
          (ap (λ (x : Seat). x.ltp) at) (ap (λ (x : Seat). x.cp) at)
      by_place History at =
          ap₂ (λ o p. row_in o p (or_else (lists.sets.history n) (look_up row_serial found n)) (lists.sets.deletions n))
          (ap (λ (x : Seat). x.ltp) at) (ap (λ (x : Seat). x.cp) at)
          ∙ ap (λ o. row_in None None o (lists.sets.deletions n)) (is_history n row (ap (λ (x : Seat). x.history) at)
          (numbered.numbered n (record { row = row; place = History }) at) of)
      by_place (Deleted reason) at = absurd (successor_stays whole sound pair there row reason at)

  predecessors : (pair : Pair) (row : Row) → Contains lists.pairs pair → row_at s pair.successor ≡ Some row
      → row.key.app ≡ app → row_at seen pair.predecessor ≡ row_at s pair.predecessor
  predecessors pair row there is of = by_seen (row_at seen n) refl
    where
      n : ℕ
      n = pair.predecessor

      lacks : row_at seen n ≡ None → (other : Row) → row_at s n ≡ Some other → ⊥
      lacks none other other_is = let (place, at) = row_at_some s numbered n other other_is in by_place place at
        where
          by_place : (place : Place) → seat s n ≡ alone other place → ⊥
          by_place LongTerm at = none_some (row_at seen n) other none (seen_ltp n other at)
          by_place (Current status) at = none_some (row_at seen n) other none
              (seen_cp n other (record { row = other; status = status }) refl (ap (λ (x : Seat). x.ltp) at)
              (ap (λ (x : Seat). x.cp) at))
          by_place History at = none_some (rest.history n) other
              (has.ends pair row there (successors pair row there is of) of none) (ap (λ (x : Seat). x.history) at)
          by_place (Deleted reason) at = predecessor_stays whole sound pair there other reason at

      by_whole : row_at seen n ≡ None → (o : Option Row) → row_at s n ≡ o → row_at seen n ≡ o
      by_whole none None whole_is = none
      by_whole none (Some other) whole_is = absurd (lacks none other whole_is)

      by_seen : (o : Option Row) → row_at seen n ≡ o → row_at seen n ≡ row_at s n
      by_seen None none = by_whole none (row_at s n) refl
      by_seen (Some other) seen_is = seen_is ∙ sym (only n other seen_is)

  pub has_ends : HasEnds app rest found lists
  has_ends = record {
    ordered = record { rising = rising; one_each = one_each };
    only = only;
    successors = successors;
    predecessors = predecessors;
  }

-- ---- the rows of the application, and what is looked up then

module _ (app : List ℕ) (lists : Content) (history : ℕ → Option Row)
    (own : (n : ℕ) (row : Row) → history n ≡ Some row → row.serial ≡ n) (first second : List Row) (serials : List ℕ)
    (of_app : (row : Row) → Contains first row ↔ ((history row.serial ≡ Some row) × (row.key.app ≡ app)))
    (lacks : AreUnknownEnds app first lists serials)
    (stay : (row : Row) → Contains first row → Contains second row)
    (come : (row : Row) → Contains second row → history row.serial ≡ Some row)
    (found : (n : ℕ) (row : Row) → Contains serials n → history n ≡ Some row → Contains second row) where
  one_first : OneEach row_serial first
  one_first x y at_x at_y same = some_is (history y.serial) x y
      (subst (λ n. history n ≡ Some x) same ((of_app x).0 at_x).0) ((of_app y).0 at_y).0

  -- what the second have nowhere, neither have the first
  fewer : (n : ℕ) → look_up row_serial second n ≡ None → look_up row_serial first n ≡ None
  fewer n none = look_lacks row_serial first n (λ row there. look_none row_serial second n none row (stay row there))

  was_seen : (n : ℕ) (row : Row) → row_at (with_others second lists.sets) n ≡ Some row → row.key.app ≡ app
      → row_at (with_others first lists.sets) n ≡ Some row
  was_seen n row is of = by_set (lists.sets.ltp n) (lists.sets.cp n) (lists.sets.history n)
      (look_up row_serial second n) refl refl refl refl is
    where
      -- where the lists have the row
      by_set : (a : Option Row) (b : Option CurrentRow) (h o : Option Row) → lists.sets.ltp n ≡ a
          → lists.sets.cp n ≡ b → lists.sets.history n ≡ h → look_up row_serial second n ≡ o
          → row_in a b (or_else h o) (lists.sets.deletions n) ≡ Some row
          → row_at (with_others first lists.sets) n ≡ Some row
      by_set a b h o at_ltp at_cp at_history at_second is = ap₂ (λ x y. row_in x y
          (or_else (lists.sets.history n) (look_up row_serial first n)) (lists.sets.deletions n)) at_ltp at_cp
          ∙ ap (λ x. row_in a b (or_else x (look_up row_serial first n)) (lists.sets.deletions n)) at_history
          ∙ by_row a b h o at_second is
        where
          by_row : (a : Option Row) (b : Option CurrentRow) (h o : Option Row) → look_up row_serial second n ≡ o
              → row_in a b (or_else h o) (lists.sets.deletions n) ≡ Some row
              → row_in a b (or_else h (look_up row_serial first n)) (lists.sets.deletions n) ≡ Some row
          by_row (Some x) b h o at is = is
          by_row None (Some x) h o at is = is
          by_row None None (Some x) o at is = is
          by_row None None None (Some x) at is =
              let this : x ≡ row = cc in
              let there = look_some row_serial second n row (at ∙ ap Some this) in
              let among = (of_app row).1 (come row there.0, of) in
              ap (λ y. row_in None None y (lists.sets.deletions n))
              (look_at row_serial first one_first row n among there.1)
          by_row None None None None at is =
              ap (λ y. row_in None None y (lists.sets.deletions n)) (fewer n at) ∙ is

  was_none : (n : ℕ) → row_at (with_others second lists.sets) n ≡ None
      → row_at (with_others first lists.sets) n ≡ None
  was_none n is = by_row (lists.sets.ltp n) (lists.sets.cp n) (lists.sets.history n) (look_up row_serial second n) refl is
    where
      by_row : (a : Option Row) (b : Option CurrentRow) (h o : Option Row) → look_up row_serial second n ≡ o
          → row_in a b (or_else h o) (lists.sets.deletions n) ≡ None
          → row_in a b (or_else h (look_up row_serial first n)) (lists.sets.deletions n) ≡ None
      by_row (Some x) b h o at is = is
      by_row None (Some x) h o at is = is
      by_row None None (Some x) o at is = is
      by_row None None None (Some x) at is = cc
      by_row None None None None at is = ap (λ y. row_in None None y (lists.sets.deletions n)) (fewer n at) ∙ is

  -- of the second nothing is there under a serial
  second_lacks : (n : ℕ) → row_at (with_others second lists.sets) n ≡ None → look_up row_serial second n ≡ None
  second_lacks n is = by_row (lists.sets.ltp n) (lists.sets.cp n) (lists.sets.history n) (look_up row_serial second n) is
    where
      by_row : (a : Option Row) (b : Option CurrentRow) (h o : Option Row)
          → row_in a b (or_else h o) (lists.sets.deletions n) ≡ None → o ≡ None
      by_row (Some x) b h o is = cc
      by_row None (Some x) h o is = cc
      by_row None None (Some x) o is = cc
      by_row None None None (Some x) is = cc
      by_row None None None None is = refl

  pub has_found : HasFound app lists history second
  has_found = record {
    only = come;
    of_app = λ row is of. stay row ((of_app row).1 (is, of));
    ends = λ pair row there is of none. by_history pair ((lacks pair.predecessor).1 (record {
      pair = pair;
      among = there;
      predecessor = refl;
      successor = row;
      stands = was_seen pair.successor row is of;
      of_app = of;
      lacks = was_none pair.predecessor none;
    })) none (history pair.predecessor) refl;
  }
    where
      by_history : (pair : Pair) → Contains serials pair.predecessor
          → row_at (with_others second lists.sets) pair.predecessor ≡ None → (o : Option Row)
          → history pair.predecessor ≡ o → history pair.predecessor ≡ None
      by_history pair among none None is = is
      by_history pair among none (Some other) is = absurd (look_none row_serial second pair.predecessor
          (second_lacks pair.predecessor none) other (found pair.predecessor other among is)
          (own pair.predecessor other is))
