-- The rules of pairs of what is live and no longer open, over a table of rows by serials.
use Rattle.std.proofs.Common.{◌≡◌, ℕ, Bool, true, false, ◌&&◌, List, get_or, refl, sym, ap, ap₂}
use Rattle.std.proofs.Common.{subst, ◌∙◌, inl, inr, arith, Option, None, Some}
use Rattle.std.specs.Prelude.{if◌then◌else◌}
use Rattle.std.specs.declared.cmp.Ordering.TheVariants.{Equal, Less}
use Rattle.std.specs.Cmp.{nat_cmp_total}
use Rattle.std.specs.Ordering.{ordering_then}
use Rattle.std.specs.List.{Contains}
use Rattle.std.proofs.lemmas.Bool.{cases_lt}
use Rattle.std.proofs.lemmas.Cmp.{tied_itself}
use Rattle.std.proofs.lemmas.List.{get_or_default}
use Rattle.std.proofs.lemmas.List.Elements.{Contains-get_or}
use Rattle.external_dependencies.specs.Loop.{OnRing}
use Rattle.external_dependencies.specs.Pair.{pair_cmp}
use Rattle.external_dependencies.specs.Rising.{IsRising}
use Rattle.external_dependencies.specs.declared.pairs.Pair.{Pair}
use Rattle.external_dependencies.specs.declared.rows.PlacedRow.{PlacedRow}
use Rattle.occurrences.specs.declared.place.Place.{Place}
use Rattle.occurrences.specs.declared.place.Place.TheVariants.{LongTerm, Current, History, Deleted}
use Rattle.occurrences.specs.declared.status.Status.TheVariants.{W, S, E, C, D}
use Rattle.planner_machine.specs.Content.{Sets, IsOnlyAt}
use Rattle.planner_machine.specs.Pairs.{IsClosedAt, IsClosedPair, pair_of}
use Rattle.planner_machine.specs.Sound.{AreNumbered}
use Rattle.planner_machine.proofs.SeatLemmas.{one_place}
use Rattle.plan_store_lists.proofs.KeyLemmas.{contains_filter, filter_contains}
use Rattle.plan_store.specs.Contents.{content_of}
use Rattle.plan_store.specs.Views.{IsPlacedAt}
use Rattle.plan_store.specs.declared.contents.Content.{Content as Kept}
use Rattle.plan_store_soundness.specs.Closed.{AreFitting, HaveOwnSlots, IsEdge, is_closed_pair}
use Rattle.plan_store_soundness.specs.Closed.{is_closed_place, is_closed_row, slot_at, slot_between}
use Rattle.plan_store_soundness.specs.declared.closed.Slot.{Slot}
use Rattle.plan_store_soundness.specs.Listing.{placed_list}
use Rattle.plan_store_soundness.specs.Pairs.{AreClosedPairs, HaveOneEach, IsClosedPlace, at_serial}
use Rattle.plan_store_soundness.specs.Seats.{IsTable}
use Rattle.plan_store_soundness.proofs.NumberedLemmas.{HasRows}
use Rattle.plan_store_soundness.proofs.PairLemmas.{all_fit_from, all_fit_to, table_at}

closed_test : (place : Place) → IsClosedPlace place → is_closed_place place ≡ true
closed_test LongTerm closed = absurd (closed.1 tt)
closed_test (Current W) closed = absurd (closed.1 refl)
closed_test (Current S) closed = refl
closed_test (Current E) closed = refl
closed_test (Current C) closed = refl
closed_test (Current D) closed = absurd (closed.0 refl)
closed_test History closed = refl
closed_test (Deleted reason) closed = absurd closed.0

closed_is : (place : Place) → is_closed_place place ≡ true → IsClosedPlace place
closed_is LongTerm t = cc
closed_is (Current W) t = cc
closed_is (Current S) t = ((λ e. cc), λ e. cc)
closed_is (Current E) t = ((λ e. cc), λ e. cc)
closed_is (Current C) t = ((λ e. cc), λ e. cc)
closed_is (Current D) t = cc
closed_is History t = (tt, λ o. o)
closed_is (Deleted reason) t = cc

both : (a b : Bool) → a && b ≡ true → (a ≡ true) × (b ≡ true)
both true b t = (refl, t)
both false b t = cc

pair_itself : (a : Pair) → pair_cmp a a ≡ Equal
pair_itself a =
    ap₂ (λ x y. ordering_then x y) (tied_itself nat_cmp_total a.successor) (tied_itself nat_cmp_total a.predecessor)

not_below_itself : (a b : Pair) → a ≡ b → pair_cmp a b ≡ Less → ⊥
not_below_itself a b same below =
    let wrong : Less ≡ Equal = sym below ∙ ap (λ x. pair_cmp a x) (sym same) ∙ pair_itself a in cc

-- a ring of edges is one of other edges that each of them is
ring_of : (From To : ℕ → ℕ → Type 0) → ((u v : ℕ) → From u v → To u v) → (n : ℕ) → OnRing From n → OnRing To n
ring_of From To to n (ring, is, at) = (
  ring,
  record {
    several = is.several;
    different = is.different;
    next = λ k d lt. to _ _ (is.next k d lt);
    closes = λ d. to _ _ (is.closes d);
  },
  at,
)

module _ (s : Sets) where
  placed_some : (n : ℕ) (o : Option PlacedRow) (p : PlacedRow) → IsPlacedAt s n o → IsOnlyAt s n p → o ≡ Some p
  placed_some n None p none stands = absurd (none p stands)
  placed_some n (Some a) p at stands = ap (λ x. Some x) (one_place s n a p at stands)

  row_is : (n : ℕ) (o : Option PlacedRow) → IsPlacedAt s n o → is_closed_row o ≡ true → IsClosedAt s n
  row_is n None none t = cc
  row_is n (Some p) at t = let closed = closed_is p.place t in (p, at, closed.0, closed.1)

  row_test : (n : ℕ) (o : Option PlacedRow) → IsPlacedAt s n o → IsClosedAt s n → is_closed_row o ≡ true
  row_test n o at (p, stands, live, waits) =
      ap is_closed_row (placed_some n o p at stands) ∙ closed_test p.place (live, waits)

  -- what a slot tells
  record TellsSlot (u v : ℕ) (slot : Slot) : Type 0 where
    closed : IsClosedAt s u
    placed : PlacedRow
    stands : IsOnlyAt s v placed
    successor : slot.successor ≡ u
    app : slot.app ≡ placed.row.key.app

  tells_by : (u v : ℕ) (p q : PlacedRow) (slot : Slot) → IsOnlyAt s u p → IsOnlyAt s v q → (b : Bool)
      → is_closed_place p.place ≡ b
      → (if b then Some (record { successor = u; app = q.row.key.app }) else None) ≡ Some slot → TellsSlot u v slot
  tells_by u v p q slot at at' false t is = cc
  tells_by u v p q slot at at' true t is =
      let closed = closed_is p.place t in
      let own : Slot = record { successor = u; app = q.row.key.app } in
      let same : own ≡ slot = cc in
      record {
        closed = (p, at, closed.0, closed.1);
        placed = q;
        stands = at';
        successor = sym (ap (λ (x : Slot). x.successor) same);
        app = sym (ap (λ (x : Slot). x.app) same);
      }

  tells : (u v : ℕ) (o o' : Option PlacedRow) (slot : Slot) → IsPlacedAt s u o → IsPlacedAt s v o'
      → slot_between u o o' ≡ Some slot → TellsSlot u v slot
  tells u v None o' slot at at' is = cc
  tells u v (Some p) None slot at at' is = cc
  tells u v (Some p) (Some q) slot at at' is = tells_by u v p q slot at at' (is_closed_place p.place) refl is

  -- the slot between two rows that stand there
  slot_known : (u v : ℕ) (o o' : Option PlacedRow) (q : PlacedRow) → IsPlacedAt s u o → IsPlacedAt s v o'
      → IsClosedAt s u → IsOnlyAt s v q → slot_between u o o' ≡ Some (record { successor = u; app = q.row.key.app })
  slot_known u v o o' q at at' (p, stands, live, waits) stands' =
      ap₂ (λ x y. slot_between u x y) (placed_some u o p at stands) (placed_some v o' q at' stands')
      ∙ ap (λ b. if b then Some (record { successor = u; app = q.row.key.app }) else None)
      (closed_test p.place (live, waits))

module _ (kept : Kept) (rows : HasRows kept) (numbered : AreNumbered (content_of kept).sets)
    (table : List (Option PlacedRow)) (is : IsTable kept.issued (placed_list kept) table) (pairs : List Pair) where
  abbrev s : Sets
  s = (content_of kept).sets

  at : (n : ℕ) → IsPlacedAt s n (at_serial table n)
  at = table_at kept rows numbered table is

  one_each_to : HaveOwnSlots table pairs → HaveOneEach s pairs
  one_each_to own successor m n p q closed at_m at_n stands stands' apps =
      let slot : Slot = record { successor = successor; app = p.row.key.app } in
      let (i, lt, here) = at_m in let (j, lt', here') = at_n in
      let first : slot_at table (pair_of successor m) ≡ Some slot =
      slot_known s successor m (at_serial table successor) (at_serial table m) p (at successor) (at m) closed stands in
      let second : slot_at table (pair_of successor n) ≡ Some slot =
      slot_known s successor n (at_serial table successor) (at_serial table n) q (at successor) (at n) closed stands'
      ∙ ap (λ a. Some (record { successor = successor; app = a })) (sym apps) in
      elim (cases_lt i j) [
        | inl below ↦ absurd (own i j (pair_of successor m) below lt' slot (ap (slot_at table) here ∙ first)
            (ap (slot_at table) (get_or_default pairs j (pair_of successor m) (pair_of successor n) lt' ∙ here')
            ∙ second))
        | inr above ↦ elim (cases_lt j i) [
          | inl below ↦ absurd (own j i (pair_of successor n) below lt slot (ap (slot_at table) here' ∙ second)
              (ap (slot_at table) (get_or_default pairs i (pair_of successor n) (pair_of successor m) lt ∙ here)
              ∙ first))
          | inr under ↦
              let place : i ≡ j = omega arith in
              let there : get_or pairs i (pair_of successor n) ≡ pair_of successor n =
              subst (λ k. get_or pairs k (pair_of successor n) ≡ pair_of successor n) (sym place) here' in
              ap (λ (x : Pair). x.predecessor)
              (sym here ∙ get_or_default pairs i (pair_of successor m) (pair_of successor n) lt ∙ there)
        ]
      ]

  one_each_from : IsRising pair_cmp pairs → HaveOneEach s pairs → HaveOwnSlots table pairs
  one_each_from rising one i j d below lt slot has has' =
      let a : Pair = get_or pairs i d in
      let b : Pair = get_or pairs j d in
      let x = tells s a.successor a.predecessor (at_serial table a.successor) (at_serial table a.predecessor) slot
      (at a.successor) (at a.predecessor) has in
      let y = tells s b.successor b.predecessor (at_serial table b.successor) (at_serial table b.predecessor) slot
      (at b.successor) (at b.predecessor) has' in
      let same : b.successor ≡ a.successor = sym y.successor ∙ x.successor in
      let there : Contains pairs (pair_of a.successor b.predecessor) =
      subst (λ n. Contains pairs (pair_of n b.predecessor)) same (Contains-get_or pairs j d lt) in
      let predecessors : a.predecessor ≡ b.predecessor =
      one a.successor a.predecessor b.predecessor x.placed y.placed x.closed (Contains-get_or pairs i d (omega arith))
      there x.stands y.stands (sym x.app ∙ y.app) in
      let whole : a ≡ b = λ k. record { successor = sym same k; predecessor = predecessors k } in
      not_below_itself a b whole (rising i j d below lt)

  -- edges of both kinds are the same
  edge_to : (u v : ℕ) → IsClosedPair s pairs u v → IsEdge table pairs u v
  edge_to u v (there, closed, closed') =
      filter_contains (is_closed_pair table) pairs (pair_of u v) there
      (ap₂ (λ x y. x && y) (row_test s u (at_serial table u) (at u) closed)
      (row_test s v (at_serial table v) (at v) closed'))

  edge_from : (u v : ℕ) → IsEdge table pairs u v → IsClosedPair s pairs u v
  edge_from u v edge =
      let from = contains_filter (is_closed_pair table) pairs (pair_of u v) edge in
      let ends = both (is_closed_row (at_serial table u)) (is_closed_row (at_serial table v)) from.1 in
      (from.0, row_is s u (at_serial table u) (at u) ends.0, row_is s v (at_serial table v) (at v) ends.1)

  pub closed_to : AreFitting table pairs → AreClosedPairs s pairs
  closed_to fitting = record {
    fit = all_fit_to kept rows numbered table is pairs fitting.fit;
    one_each = one_each_to fitting.slots;
    no_loop = λ n ring. fitting.ring n (ring_of (IsClosedPair s pairs) (IsEdge table pairs) edge_to n ring);
  }

  pub closed_from : IsRising pair_cmp pairs → AreClosedPairs s pairs → AreFitting table pairs
  closed_from rising closed = record {
    fit = all_fit_from kept rows numbered table is pairs closed.fit;
    slots = one_each_from rising closed.one_each;
    ring = λ n ring. closed.no_loop n (ring_of (IsEdge table pairs) (IsClosedPair s pairs) edge_from n ring);
  }
