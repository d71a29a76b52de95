-- The rows of all sets by serial.
use Rattle.std.proofs.Common.{◌≡◌, ℕ, ◌<◌, List, ◌++◌, length, get_or, map, refl, sym, ap, subst, ◌∙◌, inl, inr}
use Rattle.std.proofs.Common.{Some, None}
use Rattle.std.specs.FinMap.{nat_cmp-IsAntisymmetric}
use Rattle.std.specs.List.{Contains, HoldsAt}
use Rattle.std.specs.List.Sorted.{IsNonDecreasingBy, IsPartitionPoint, IsPermutation, IsSortedByKey}
use Rattle.std.specs.Ordering.{nat_cmp, ordering_index}
use Rattle.std.specs.declared.cmp.Ordering.TheVariants.{Less, Equal, Greater}
use Rattle.std.proofs.lemmas.Cmp.{nat_cmp_total}
use Rattle.std.proofs.lemmas.List.Elements.{Contains-append_cases, Contains-append_left, Contains-append_right}
use Rattle.std.proofs.lemmas.List.Elements.{Contains-get_or}
use Rattle.std.proofs.lemmas.List.Sorted.{Contains-permutation, IsPermutation-sym, searchable_from_sorted}
use Rattle.occurrences.specs.declared.place.CurrentRow.{CurrentRow}
use Rattle.occurrences.specs.declared.place.Deletion.{Deletion}
use Rattle.occurrences.specs.declared.place.Place.{Place}
use Rattle.occurrences.specs.declared.place.Place.TheVariants.{LongTerm, Current, History, Deleted}
use Rattle.occurrences.specs.declared.row.Row.{Row}
use Rattle.planner_machine.specs.Content.{Seat, Sets, alone, seat}
use Rattle.planner_machine.specs.Sound.{AreNumbered}
use Rattle.plan_store_lists.specs.Rows.{AreRows, look_up, of_current, of_deletion, of_row}
use Rattle.plan_store_lists.proofs.KeyLemmas.{missed_all}
use Rattle.plan_store.specs.Listed.{AreBySerial, row_at}
use Rattle.plan_store.specs.Parts.{ListsAll}
use Rattle.plan_store.proofs.ListedLemmas.{from_map, to_map}
use Rattle.plan_store_lists.proofs.LookLemmas.{look_has, look_some}
use Rattle.plan_store.proofs.PlaceLemmas.{stands_cp, stands_deleted, stands_history, stands_ltp}
use Rattle.plan_store.proofs.ShownLemmas.{row_at_some, row_at_stands, row_serial}

-- what a search for a serial finds
module _ {B : Type 0} (row_of : B → Row) (s : Sets) (numbered : AreNumbered s) (xs : List B)
    (are : AreBySerial row_of s xs) (serial : ℕ) where
  abbrev key : B → ℕ
  key b = (row_of b).serial

  pub number_taken : (i : ℕ) (b : B) → i < length xs → HoldsAt (λ y. nat_cmp (key y) serial ≡ Equal) xs i
      → Some (row_of (get_or xs i b)) ≡ row_at s serial
  number_taken i b lt tie =
      let found = get_or xs i b in
      let same : key found ≡ serial = nat_cmp-IsAntisymmetric (key found) serial (tie b) in
      sym (subst (λ n. row_at s n ≡ Some (row_of found)) same (are.only found (Contains-get_or xs i b lt)))

  pub number_missed : (i : ℕ) → (IsNonDecreasingBy (λ y. ordering_index (nat_cmp (key y) serial)) xs
      → IsPartitionPoint (λ y. nat_cmp (key y) serial ≡ Less) (λ y. nat_cmp (key y) serial ≡ Greater) xs i) → None
      ≡ row_at s serial
  number_missed i point =
      let lacks = missed_all nat_cmp_total nat_cmp-IsAntisymmetric key xs serial i
      (point (searchable_from_sorted nat_cmp_total key xs serial are.rising)) in
      elim (row_at s serial) as (λ o. row_at s serial ≡ o → None ≡ o) [
        | None ↦ λ _. refl
        | Some row ↦ λ e.
            let (b, there, is) = are.all serial row e in
            absurd (lacks b there (ap (λ (r : Row). r.serial) is ∙ row_serial s numbered serial row e))
      ] refl

-- a list of a set has all of it
pub lists_set : {X : Type 0} (row_of : X → Row) (xs : List X) → AreRows row_of xs
    → ListsAll row_of xs (look_up (λ x. (row_of x).serial) xs)
lists_set row_of xs rows = record {
  only = λ x there. look_has (λ x. (row_of x).serial) xs rows.one_each x there;
  found = λ serial. refl;
}

-- the occurrences of four sets
abbrev pub all_rows : List Row → List CurrentRow → List Row → List Deletion → List Row
all_rows ltp cp history deletions =
    ((map of_row ltp ++ map of_current cp) ++ map of_row history) ++ map of_deletion deletions

-- where these are all of their sets
module _ (s : Sets) (numbered : AreNumbered s) (ltp : List Row) (cp : List CurrentRow) (history : List Row)
    (deletions : List Deletion) (lists_ltp : ListsAll of_row ltp s.ltp) (lists_cp : ListsAll of_current cp s.cp)
    (lists_history : ListsAll of_row history s.history) (lists_deletions : ListsAll of_deletion deletions s.deletions)
  where
    abbrev planned : List Row
    planned = map of_row ltp

    abbrev current : List Row
    current = map of_current cp

    abbrev done : List Row
    done = map of_row history

    abbrev deleted : List Row
    deleted = map of_deletion deletions

    in_set : {X : Type 0} (row_of : X → Row) (xs : List X) → ((x : X) → Contains xs x → row_at s (row_of x).serial
        ≡ Some (row_of x)) → (row : Row) → Contains (map row_of xs) row → row_at s row.serial ≡ Some row
    in_set row_of xs each row there =
        let (x, among, is) = from_map row_of xs row there in
        subst (λ (r : Row). row_at s r.serial ≡ Some r) is (each x among)

    in_ltp : (row : Row) → Contains ltp row → row_at s row.serial ≡ Some row
    in_ltp row there = row_at_stands s row.serial (record { row = row; place = LongTerm })
        (stands_ltp s numbered row.serial row (lists_ltp.only row there))

    in_cp : (x : CurrentRow) → Contains cp x → row_at s x.row.serial ≡ Some x.row
    in_cp x there = row_at_stands s x.row.serial (record { row = x.row; place = Current x.status })
        (stands_cp s numbered x.row.serial x (lists_cp.only x there))

    in_history : (row : Row) → Contains history row → row_at s row.serial ≡ Some row
    in_history row there = row_at_stands s row.serial (record { row = row; place = History })
        (stands_history s numbered row.serial row (lists_history.only row there))

    in_deletions : (x : Deletion) → Contains deletions x → row_at s x.row.serial ≡ Some x.row
    in_deletions x there = row_at_stands s x.row.serial (record { row = x.row; place = Deleted x.reason })
        (stands_deleted s numbered x.row.serial x (lists_deletions.only x there))

    from_all : (row : Row) → Contains (all_rows ltp cp history deletions) row → row_at s row.serial ≡ Some row
    from_all row there = elim (Contains-append_cases ((planned ++ current) ++ done) deleted row there) [
      | inr gone ↦ in_set of_deletion deletions in_deletions row gone
      | inl rest ↦ elim (Contains-append_cases (planned ++ current) done row rest) [
        | inr complete ↦ in_set of_row history in_history row complete
        | inl plans ↦ elim (Contains-append_cases planned current row plans) [
          | inr moved ↦ in_set of_current cp in_cp row moved
          | inl waits ↦ in_set of_row ltp in_ltp row waits
        ]
      ]
    ]

    to_all : (serial : ℕ) (place : Place) (row : Row) → seat s serial ≡ alone row place
        → Contains (all_rows ltp cp history deletions) row
    to_all serial LongTerm row at =
        Contains-append_left ((planned ++ current) ++ done) deleted row (Contains-append_left (planned ++ current) done
        row (Contains-append_left planned current row (to_map of_row ltp row (look_some (λ (r : Row). r.serial) ltp
        serial row (lists_ltp.found serial ∙ ap (λ (x : Seat). x.ltp) at)).0)))
    to_all serial (Current status) row at =
        Contains-append_left ((planned ++ current) ++ done) deleted row (Contains-append_left (planned ++ current) done
        row (Contains-append_right planned current row
        (to_map of_current cp (record { row = row; status = status }) (look_some (λ (r : CurrentRow). r.row.serial) cp
        serial (record { row = row; status = status }) (lists_cp.found serial ∙ ap (λ (x : Seat). x.cp) at)).0)))
    to_all serial History row at =
        Contains-append_left ((planned ++ current) ++ done) deleted row (Contains-append_right (planned ++ current) done
        row (to_map of_row history row (look_some (λ (r : Row). r.serial) history serial row
        (lists_history.found serial ∙ ap (λ (x : Seat). x.history) at)).0))
    to_all serial (Deleted reason) row at =
        Contains-append_right ((planned ++ current) ++ done) deleted row
        (to_map of_deletion deletions (record { row = row; reason = reason })
        (look_some (λ (r : Deletion). r.row.serial) deletions serial (record { row = row; reason = reason })
        (lists_deletions.found serial ∙ ap (λ (x : Seat). x.deletions) at)).0)

    pub all_by_serial : {B : Type 0} (row_of : B → Row) (bs ys : List B)
        → map row_of bs ≡ all_rows ltp cp history deletions → IsPermutation bs ys
        → IsSortedByKey (λ b. (row_of b).serial) nat_cmp ys → AreBySerial row_of s ys
    all_by_serial {B} row_of bs ys is moves sorted = record {
      rising = sorted;
      only = λ b there. from_all (row_of b)
          (subst (λ l. Contains l (row_of b)) is
          (to_map row_of bs b (Contains-permutation _ _ b (IsPermutation-sym _ _ moves) there)));
      all = λ serial row e.
          let (place, at) = row_at_some s numbered serial row e in
          let (b, there, same) = from_map row_of bs row
          (subst (λ l. Contains l row) (sym is) (to_all serial place row at)) in
          (b, Contains-permutation _ _ b moves there, same);
    }
