-- The rules of pairs, over a table of rows by serials.
use Rattle.std.proofs.Common.{◌≡◌, ℕ, zero, suc, ◌-◌, List, get_or, refl, sym, subst}
use Rattle.std.proofs.Common.{inl, arith, Option, None, Some}
use Rattle.std.specs.List.{All, Contains}
use Rattle.std.proofs.lemmas.List.Elements.{All-contains, All-contains_itself, All-weaker}
use Rattle.external_dependencies.specs.Nearest.{IsCandidate, arrival_of}
use Rattle.external_dependencies.specs.Pair.{pair_cmp}
use Rattle.external_dependencies.specs.Rising.{IsRising}
use Rattle.external_dependencies.specs.declared.links.Link.{Link}
use Rattle.external_dependencies.specs.declared.pairs.Pair.{Pair}
use Rattle.external_dependencies.specs.declared.rows.PlacedRow.{PlacedRow}
use Rattle.occurrences.specs.Place.{IsComplete}
use Rattle.planner_machine.specs.Content.{Sets, IsOnlyAt}
use Rattle.planner_machine.specs.Pairs.{ArePairs}
use Rattle.planner_machine.specs.Sound.{AreNumbered}
use Rattle.planner_machine.proofs.SeatLemmas.{not_empty, one_place}
use Rattle.planner_machine.specs.RowsSound.{RowsSound}
use Rattle.plan_store_pairs.specs.LiveRows.{HasLists, HasPairsAfter}
use Rattle.plan_store_lists.proofs.LookLemmas.{look_has, look_some}
use Rattle.occurrences.specs.declared.place.CurrentRow.{CurrentRow}
use Rattle.occurrences.specs.declared.row.Row.{Row}
use Rattle.plan_store.specs.Contents.{content_of}
use Rattle.plan_store.specs.Views.{IsPlacedAt}
use Rattle.plan_store.specs.declared.contents.Content.{Content as Kept}
use Rattle.plan_store_soundness.specs.Listing.{placed_list}
use Rattle.plan_store_soundness.specs.Pairs.{FitsAt, FitsRows, IsClosedPlace, at_serial}
use Rattle.plan_store_soundness.specs.Seats.{IsTable}
use Rattle.plan_store_soundness.proofs.NumberedLemmas.{HasRows, listed_stands, stands_listed}

none_some : {X : Type 0} (o : Option X) (x : X) → o ≡ None → o ≡ Some x → ⊥
none_some o x a b = cc

-- the table tells what stands under a serial
pub table_at : (kept : Kept) (rows : HasRows kept) → AreNumbered (content_of kept).sets
    → (table : List (Option PlacedRow)) → IsTable kept.issued (placed_list kept) table
    → (serial : ℕ) → IsPlacedAt (content_of kept).sets serial (at_serial table serial)
table_at kept rows numbered table is zero = λ p stands.
    not_empty (content_of kept).sets zero p stands (numbered.unissued zero (inl refl))
table_at kept rows numbered table is (suc k) =
    elim (get_or table k None) as (λ o. get_or table k None ≡ o → IsPlacedAt (content_of kept).sets (suc k) o) [
      | Some p ↦ λ at.
          let found = is.from k p at in
          let serial : p.row.serial ≡ suc k = omega (arith, found.1) in
          subst (λ n. IsOnlyAt (content_of kept).sets n p) serial (listed_stands kept rows numbered p found.0)
      | None ↦ λ none p stands.
          let there = stands_listed kept rows (suc k) p stands in
          let at = (is.kept p there.0).2 in
          let place : p.row.serial - 1 ≡ k = omega (arith, there.1) in
          none_some (get_or table k None) p none (subst (λ n. get_or table n None ≡ Some p) place at)
    ] refl

module _ (s : Sets) (pair : Pair) where
  closed_is : (a p : PlacedRow) → a ≡ p → IsClosedPlace p.place → IsClosedPlace a.place
  closed_is a p same closed = subst (λ (x : PlacedRow). IsClosedPlace x.place) (sym same) closed

  pub fit_to : (o o' : Option PlacedRow) → IsPlacedAt s pair.successor o → IsPlacedAt s pair.predecessor o'
      → FitsRows o o' → FitsAt s pair
  fit_to None o' none placed fits (p, stands, live, waits) = absurd (none p stands)
  fit_to (Some a) None at none fits (p, stands, live, waits) =
      absurd (fits (closed_is a p (one_place s pair.successor a p at stands) (live, waits)))
  fit_to (Some a) (Some b) at at' fits (p, stands, live, waits) =
      let h = fits (closed_is a p (one_place s pair.successor a p at stands) (live, waits)) in (
        (b, at', h.0),
        λ x y at_x at_y.
            let P : PlacedRow → PlacedRow → Type 0 = λ v w. IsCandidate v.row.key w.row.key.app None (arrival_of w.row) in
            subst (λ v. P v y) (one_place s pair.successor a x at at_x)
            (subst (λ w. P a w) (one_place s pair.predecessor b y at' at_y) h.1),
      )

  pub fit_from : (o o' : Option PlacedRow) → IsPlacedAt s pair.successor o → IsPlacedAt s pair.predecessor o'
      → FitsAt s pair → FitsRows o o'
  fit_from None o' none placed fits = tt
  fit_from (Some a) None at none fits = λ closed.
      let (b, stands, complete) = (fits (a, at, closed.0, closed.1)).0 in none b stands
  fit_from (Some a) (Some b) at at' fits = λ closed.
      let h = fits (a, at, closed.0, closed.1) in
      let (b', stands, complete) = h.0 in (
        subst (λ (x : PlacedRow). IsComplete x.place) (one_place s pair.predecessor b' b stands at') complete,
        h.1 a b at at',
      )

module _ (kept : Kept) (rows : HasRows kept) (numbered : AreNumbered (content_of kept).sets)
    (table : List (Option PlacedRow)) (is : IsTable kept.issued (placed_list kept) table) (pairs : List Pair) where
  abbrev Fits : Pair → Type 0
  Fits pair = FitsRows (at_serial table pair.successor) (at_serial table pair.predecessor)

  pub all_fit_to : All Fits pairs → (pair : Pair) → Contains pairs pair → FitsAt (content_of kept).sets pair
  all_fit_to fits pair there =
      fit_to (content_of kept).sets pair (at_serial table pair.successor) (at_serial table pair.predecessor)
      (table_at kept rows numbered table is pair.successor) (table_at kept rows numbered table is pair.predecessor)
      (All-contains Fits pairs pair fits there)

  pub all_fit_from : ((pair : Pair) → Contains pairs pair → FitsAt (content_of kept).sets pair) → All Fits pairs
  all_fit_from fits =
      All-weaker (Contains pairs) Fits (λ pair there.
      fit_from (content_of kept).sets pair (at_serial table pair.successor) (at_serial table pair.predecessor)
      (table_at kept rows numbered table is pair.successor) (table_at kept rows numbered table is pair.predecessor)
      (fits pair there))
      pairs (All-contains_itself pairs)

-- pairs with the same elements as those that follow from them
module _ (links : List Link) (s : Sets) (pairs settled : List Pair) (rising : IsRising pair_cmp pairs)
    (after : HasPairsAfter pairs links s settled) where
  pub settled_to : All (Contains settled) pairs → All (Contains pairs) settled → ArePairs pairs links s pairs
  settled_to first second = record {
    rising = rising;
    exactly = λ pair. (
      (λ there. (after pair).0 (All-contains (Contains settled) pairs pair first there)),
      λ cases. All-contains (Contains pairs) settled pair second ((after pair).1 cases),
    );
  }

  pub settled_from : ArePairs pairs links s pairs → All (Contains settled) pairs × All (Contains pairs) settled
  settled_from are = (
    All-weaker (Contains pairs) (Contains settled) (λ pair there. (after pair).1 ((are.exactly pair).0 there)) pairs
        (All-contains_itself pairs),
    All-weaker (Contains settled) (Contains pairs) (λ pair there. (are.exactly pair).1 ((after pair).0 there)) settled
        (All-contains_itself settled),
  )

pub has_lists : (kept : Kept) (rows : HasRows kept) → RowsSound (content_of kept).sets
    → HasLists (content_of kept).sets kept.ltp.items kept.cp.items kept.history.items
has_lists kept rows sound = record {
  sound = sound;
  ltp = λ row. (
    look_has (λ (r : Row). r.serial) kept.ltp.items rows.ltp.one_each row,
    λ is. (look_some (λ (r : Row). r.serial) kept.ltp.items row.serial row is).0,
  );
  cp = λ x. (
    look_has (λ (c : CurrentRow). c.row.serial) kept.cp.items rows.cp.one_each x,
    λ is. (look_some (λ (c : CurrentRow). c.row.serial) kept.cp.items x.row.serial x is).0,
  );
  history = λ row. (
    look_has (λ (r : Row). r.serial) kept.history.items rows.history.one_each row,
    λ is. (look_some (λ (r : Row). r.serial) kept.history.items row.serial row is).0,
  );
}
