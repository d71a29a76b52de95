-- A listing of the deletions of one application.
use Rattle.std.proofs.Common.{◌≡◌, ℕ, ◌∷◌, [], List, Some, false, map, get_or, ap, refl, sym, subst, ◌∙◌, inl, inr, arith}
use Rattle.std.specs.List.{AllPairs, Contains}
use Rattle.std.specs.Cmp.Lexicographic.{slice_cmp}
use Rattle.std.specs.FinMap.{nat_cmp-IsAntisymmetric}
use Rattle.std.specs.Ordering.{nat_cmp, ordering_then}
use Rattle.std.specs.declared.cmp.Ordering.TheVariants.{Less, Equal}
use Rattle.std.proofs.lemmas.Cmp.{nat_list_cmp_total, ranked, tied_itself}
use Rattle.std.proofs.lemmas.List.Elements.{Contains-get_or}
use Rattle.occurrences.specs.Place.{reason_letter}
use Rattle.occurrences.specs.Row.{RowBefore}
use Rattle.occurrences.specs.declared.place.Deletion.{Deletion}
use Rattle.occurrences.specs.declared.place.Place.{Place}
use Rattle.occurrences.specs.declared.place.Place.TheVariants.{LongTerm, Current, History, Deleted}
use Rattle.occurrences.specs.declared.row.Row.{Row}
use Rattle.external_dependencies.specs.Arrival.{arrival_cmp}
use Rattle.external_dependencies.specs.Nearest.{arrival_of}
use Rattle.external_dependencies.specs.declared.rows.PlacedRow.{PlacedRow}
use Rattle.planner_machine.specs.Content.{Content, Seat, alone, seat}
use Rattle.planner_machine.specs.Shown.{InDeletions, IsListed, IsPlaceOf}
use Rattle.planner_machine.specs.Sound.{AreNumbered}
use Rattle.plan_store_lists.proofs.SliceLemmas.{then_less}
use Rattle.plan_store_lists.specs.Rows.{of_deletion}
use Rattle.plan_store.specs.AppDeletions.{AreDeletionsOf}
use Rattle.plan_store.specs.Listed.{shown_as}
use Rattle.plan_store.specs.Listings.{ShowRows, row_shown}
use Rattle.plan_store.proofs.ListedLemmas.{from_map, pairs_map, to_map}
use Rattle.plan_store.proofs.PlaceLemmas.{stands_deleted}

-- of one application, rows in the order of their arrivals are in that of a listing
before_by : (a b : Row) → a.key.app ≡ b.key.app → arrival_cmp (arrival_of a) (arrival_of b) ≡ Less → RowBefore a b
before_by a b same less =
    let tied : slice_cmp nat_cmp a.key.app b.key.app ≡ Equal =
    ap (slice_cmp nat_cmp a.key.app) (sym same) ∙ tied_itself nat_list_cmp_total a.key.app in
    elim (then_less (slice_cmp nat_cmp a.key.app b.key.app)
    (ordering_then (nat_cmp a.key.ia b.key.ia) (nat_cmp a.serial b.serial)) less) [
      | inl below ↦ absurd (let h : ⊥ = cc in h)
      | inr rest ↦ elim (then_less (nat_cmp a.key.ia b.key.ia) (nat_cmp a.serial b.serial) rest.1) [
        | inl early ↦ inl (inl (ranked a.key.ia b.key.ia Less (sym early)))
        | inr last ↦
            let ia = nat_cmp-IsAntisymmetric a.key.ia b.key.ia last.0 in
            inr ((λ i. record { ia = ia i; app = same i }), ranked a.serial b.serial Less (sym last.1))
      ]
    ]

abbrev letter : Deletion → ℕ
letter d = reason_letter d.reason

abbrev placed : Deletion → PlacedRow
placed d = record { row = d.row; place = Deleted d.reason }

shown_placed : (found : List Deletion) → map (shown_as of_deletion letter false) found ≡ map row_shown (map placed found)
shown_placed [] = refl
shown_placed (d ∷ found) = ap (λ l. row_shown (placed d) ∷ l) (shown_placed found)

module _ (c : Content) (numbered : AreNumbered c.sets) (app : List ℕ) (found : List Deletion)
    (are : AreDeletionsOf app c.sets.deletions found) where
  of_app : (i : ℕ) (d : Deletion) → Contains found d → d.row.key.app ≡ app
  of_app i d there = ((are.exactly d).0 there).1

  rising : AllPairs (λ (x y : Deletion). RowBefore x.row y.row) found
  rising i j d below lt =
      let first = Contains-get_or found i d (omega arith) in
      let second = Contains-get_or found j d lt in
      before_by (get_or found i d).row (get_or found j d).row
      (of_app i (get_or found i d) first ∙ sym (of_app j (get_or found j d) second)) (are.keyed i j d below lt)

  to : (p : PlacedRow) → Contains (map placed found) p → IsListed InDeletions (Some app) c.sets p
  to p there =
      let (d, among, is) = from_map placed found p there in
      let both = (are.exactly d).0 among in
      subst (IsListed InDeletions (Some app) c.sets) is
      (d.row.serial, stands_deleted c.sets numbered d.row.serial d both.0, tt, both.1)

  from : (p : PlacedRow) → IsListed InDeletions (Some app) c.sets p → Contains (map placed found) p
  from p (serial, at, is_place, own) = by_place p.place p.row at is_place own
    where
      by_place : (place : Place) (row : Row) → seat c.sets serial ≡ alone row place → IsPlaceOf InDeletions place
          → row.key.app ≡ app → Contains (map placed found) (record { row = row; place = place })
      by_place LongTerm row at is own = absurd is
      by_place (Current status) row at is own = absurd is
      by_place History row at is own = absurd is
      by_place (Deleted reason) row at is own =
          let d : Deletion = record { row = row; reason = reason } in
          let number : row.serial ≡ serial = numbered.numbered serial (record { row = row; place = Deleted reason }) at in
          to_map placed found d
          ((are.exactly d).1 (ap c.sets.deletions number ∙ ap (λ (s : Seat). s.deletions) at, own))

  -- what is shown of them
  pub deletions_shown : ShowRows InDeletions (Some app) c (map (shown_as of_deletion letter false) found)
  deletions_shown = (
    map placed found,
    record {
      rising = pairs_map placed (λ (p q : PlacedRow). RowBefore p.row q.row) found rising;
      exactly = λ p. (to p, from p);
    },
    shown_placed found,
  )

  -- and of references to them
  module _ {B : Type 0} (now : B → Deletion) where
    map_twice : (bs : List B) → map (λ b. shown_as of_deletion letter false (now b)) bs
        ≡ map (shown_as of_deletion letter false) (map now bs)
    map_twice [] = refl
    map_twice (b ∷ bs) = ap (λ l. shown_as of_deletion letter false (now b) ∷ l) (map_twice bs)

    pub lent_shown : (bs : List B) → map now bs ≡ found
        → ShowRows InDeletions (Some app) c (map (λ b. shown_as of_deletion letter false (now b)) bs)
    lent_shown bs is = subst (ShowRows InDeletions (Some app) c)
        (sym (map_twice bs ∙ ap (map (shown_as of_deletion letter false)) is)) deletions_shown
