-- The rows that were found of history are those that a listing of the pairs of one application needs.
use Rattle.std.proofs.Common.{◌≡◌, ◌++◌, ◌∷◌, ◌∙◌, ℕ, List, [], None, Option, Some, ap, inl, inr, subst, sym}
use Rattle.std.specs.Prelude.{option_to_list}
use Rattle.std.specs.List.{Contains}
use Rattle.std.specs.List.Sorted.{IsPermutation, IsSortedByKey}
use Rattle.std.specs.Ordering.{nat_cmp}
use Rattle.std.proofs.lemmas.List.Elements.{Contains-append_cases, Contains-append_left, Contains-append_right}
use Rattle.std.proofs.lemmas.List.Elements.{Contains-push_cases}
use Rattle.std.proofs.lemmas.List.Sorted.{Contains-permutation, IsPermutation-sym}
use Rattle.occurrences.specs.declared.place.Place.TheVariants.{History}
use Rattle.occurrences.specs.declared.row.Row.{Row}
use Rattle.planner_machine.specs.Content.{Content}
use Rattle.planner_machine.specs.Sound.{IsSound}
use Rattle.plan_store_lists.proofs.KeyLemmas.{contains_cases, contains_first, nothing}
use Rattle.plan_store_lists.specs.Rows.{OneEach}
use Rattle.plan_store.specs.AppPairs.{AreBySerials, AreUnknownEnds}
use Rattle.plan_store.specs.Ends.{HasFound}
use Rattle.plan_store.specs.Views.{row_serial}
use Rattle.plan_store.proofs.EndLemmas.{has_found}
use Rattle.plan_store.proofs.PlaceLemmas.{some_is, stands_history}
use Rattle.plan_tables_queries.specs.OfApp.{AreAllOf}
use Rattle.plan_tables.specs.Ends.{HasSerial}

-- a row of history has the serial that it is under
pub own_serial : (c : Content) → IsSound c → (n : ℕ) (row : Row) → c.sets.history n ≡ Some row → row.serial ≡ n
own_serial c sound n row is = sound.serials.numbered n (record { row = row; place = History })
    (stands_history c.sets sound.serials n row is)

-- the same rows in another order
pub all_of_sorted : (history : ℕ → Option Row) (app : List ℕ) (found sorted : List Row) → IsPermutation found sorted
    → AreAllOf history app found → AreAllOf history app sorted
all_of_sorted history app found sorted same all row = (
  λ there. (all row).0 (Contains-permutation sorted found row (IsPermutation-sym found sorted same) there),
  λ is. Contains-permutation found sorted row same ((all row).1 is),
)

of_option : (o : Option Row) (row : Row) → Contains (option_to_list o) row → o ≡ Some row
of_option None row there = absurd (nothing row there)
of_option (Some x) row there = elim (contains_cases x row [] there) [
  | inl same ↦ ap Some same
  | inr later ↦ absurd (nothing row later)
]

-- the first are all rows of the application, the rows are those, and what history has under the serials, and no others
pub record Found (app : List ℕ) (first : List Row) (serials : List ℕ) (rows : List Row) (c : Content) : Type 0 where
  pub all : AreAllOf c.sets.history app first
  pub stay : (row : Row) → Contains first row → Contains rows row
  pub come : (row : Row) → Contains rows row → c.sets.history row.serial ≡ Some row
  pub found : (n : ℕ) (row : Row) → Contains serials n → c.sets.history n ≡ Some row → Contains rows row

pub found_begin : (app : List ℕ) (first : List Row) (c : Content) → AreAllOf c.sets.history app first
    → Found app first [] first c
found_begin app first c all = record {
  all = all;
  stay = λ row there. there;
  come = λ row there. ((all row).0 there).0;
  found = λ n row there is. absurd (nothing n there);
}

module _ (app : List ℕ) (first rows : List Row) (serials : List ℕ) (serial : ℕ) (c : Content)
    (own : (n : ℕ) (row : Row) → c.sets.history n ≡ Some row → row.serial ≡ n) (are : Found app first serials rows c)
  where
    abbrev under : List Row
    under = option_to_list (c.sets.history serial)

    -- of one serial more
    pub found_more : (more : List Row) → more ≡ rows ++ under → Found app first (serials ++ serial ∷ []) more c
    found_more more is = record {
      all = are.all;
      stay = λ row there. moved row (Contains-append_left rows under row (are.stay row there));
      come = λ row there. elim (Contains-append_cases rows under row
          (subst (λ (l : List Row). Contains l row) is there)) [
            | inl before ↦ are.come row before
            | inr new ↦
                let at = of_option (c.sets.history serial) row new in
                subst (λ n. c.sets.history n ≡ Some row) (sym (own serial row at)) at
          ];
      found = λ n row there at. elim (Contains-push_cases serials serial n there) [
        | inl before ↦ moved row (Contains-append_left rows under row (are.found n row before at))
        | inr this ↦ moved row (Contains-append_right rows under row
            (subst (λ (o : Option Row). Contains (option_to_list o) row) (sym (ap c.sets.history this ∙ at))
            (contains_first row [])))
      ];
    }
      where
        moved : (row : Row) → Contains (rows ++ under) row → Contains more row
        moved row there = subst (λ (l : List Row). Contains l row) (sym is) there

    -- of one that was looked up before
    pub found_again : HasSerial rows serial → Found app first (serials ++ serial ∷ []) rows c
    found_again has = record {
      all = are.all;
      stay = are.stay;
      come = are.come;
      found = λ n row there at. elim (Contains-push_cases serials serial n there) [
        | inl before ↦ are.found n row before at
        | inr this ↦ subst (Contains rows) (some_is (c.sets.history n) has.row row
            (subst (λ k. c.sets.history k ≡ Some has.row) (has.same ∙ this) (are.come has.row has.among)) at) has.among
      ];
    }

-- the application's rows, those under the serials that the lists lack, and no others
module _ (app : List ℕ) (lists c : Content) (sound : IsSound c) (first found sorted : List Row) (serials : List ℕ)
    (rising : IsSortedByKey row_serial nat_cmp first)
    (lacks : AreBySerials first → AreUnknownEnds app first lists serials)
    (are : Found app first serials found c) (same : IsPermutation found sorted) where
  one_each : OneEach row_serial first
  one_each x y at_x at_y is = some_is (c.sets.history y.serial) x y
      (subst (λ n. c.sets.history n ≡ Some x) is ((are.all x).0 at_x).0) ((are.all y).0 at_y).0

  moved : (row : Row) → Contains found row → Contains sorted row
  moved row there = Contains-permutation found sorted row same there

  pub finds_ends : HasFound app lists c.sets.history sorted
  finds_ends = has_found app lists c.sets.history (own_serial c sound) first sorted serials are.all
      (lacks (record { rising = rising; one_each = one_each })) (λ row there. moved row (are.stay row there))
      (λ row there. are.come row (Contains-permutation sorted found row (IsPermutation-sym found sorted same) there))
      (λ n row there at. moved row (are.found n row there at))
