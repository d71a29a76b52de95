-- Numbers that rise, and rowids that differ.
use Rattle.std.proofs.Common.{◌≡◌, ◌≢◌, ◌∙◌, ℕ, ℤ, zero, suc, ◌<◌, List, [], ◌∷◌, length, map, get_or, refl, sym}
use Rattle.std.proofs.Common.{ap, subst, inl, inr, arith, add-one, eqb, Bool, true, false, Ordering, Less, Equal}
use Rattle.std.proofs.Common.{Greater, IsTrue}
use Rattle.std.specs.FinMap.{int_cmp-IsAntisymmetric}
use Rattle.std.specs.List.{AllAdjacentBelow, AllByRecursion, AllPairs, Contains, IsDistinct}
use Rattle.std.specs.List.Sorted.{IsNonDecreasingBy, IsPermutation}
use Rattle.std.specs.Ordering.{is_eq}
use Rattle.std.proofs.lemmas.Bool.{cases_order, eqb-false, ne_eqb}
use Rattle.std.proofs.lemmas.Bool.Decides.{nat_tests}
use Rattle.std.proofs.lemmas.Cmp.{tied_itself}
use Rattle.std.proofs.lemmas.List.{get_or-map, length-map}
use Rattle.std.proofs.lemmas.List.Sorted.{Contains-permutation, IsPermutation-map, IsPermutation-sym}
use Rattle.std.proofs.lemmas.Map.Keys.{apart_from_distinct, IsDistinct-from_apart}
use Rattle.std.proofs.lemmas.Map.Keys.{IsDistinct-IsPermutation, IsDistinct-head, IsDistinct-tail}
use Rattle.sqlite.specs.Order.{Row as Values, column}
use Rattle.sqlite.specs.Tree.{rowid}
use Rattle.sqlite_value.specs.Order.{value_cmp}
use Rattle.sqlite.specs.View.{is_int}
use Rattle.sqlite.specs.declared.types.Value.TheVariants.{Int}
use Rattle.sqlite_value.proofs.OrderLemmas.{value_cmp-Int, value_cmp_total}
use Rattle.app_definition_records.proofs.RisingLemmas.{Contains-map, Contains-map_back}
use Rattle.plan_store_lists.proofs.KeyLemmas.{contains_first, contains_later}
use Rattle.plan_tables_content.specs.Decoded.{nat_in}
use Rattle.plan_tables_content.specs.Facts.{natural}
use Rattle.plan_tables_schema.specs.Rows.{Differ, HaveRowids, shown}
use Rattle.plan_tables_schema.specs.declared.tables.Table.{Table}
use Rattle.plan_tables_loading.specs.Order.{NumbersRise}
use Rattle.plan_tables_loading.specs.Readable.{ShowsNumbers}

pub flips : (m n : ℕ) → eqb m n ≡ eqb n m
flips m n = grind (arith, nat_tests)

module _ {X : Type 0} (number_of : X → ℕ) where
  -- each number is below the next, so below all after it
  pub rise_far : (xs : List X) (n : ℕ) → AllAdjacentBelow (λ x y. number_of x < number_of y) xs n → (i j : ℕ) (d : X)
      → i < j → j < n → number_of (get_or xs i d) < number_of (get_or xs j d)
  rise_far xs n next i zero d low within = absurd (omega (arith, low))
  rise_far xs n next i (suc j) d low within =
      let step : number_of (get_or xs j d) < number_of (get_or xs (suc j) d) =
      subst (λ k. number_of (get_or xs j d) < number_of (get_or xs k d)) (add-one j)
      (next j d (omega (arith, within))) in
      elim (cases_order i j) [
        | inl is ↦ subst (λ k. number_of (get_or xs k d) < number_of (get_or xs (suc j) d)) (sym is) step
        | inr (inl below) ↦ omega (arith, step, rise_far xs n next i j d below (omega (arith, within)))
        | inr (inr above) ↦ absurd (omega (arith, above, low))
      ]

  pub apart_distinct : (xs : List X) → AllPairs (λ x y. number_of x ≢ number_of y) xs
      → IsDistinct eqb (map number_of xs)
  unfolding IsDistinct
  apart_distinct [] apart = tt
  apart_distinct (x ∷ xs) apart = IsDistinct-from_apart eqb (map number_of (x ∷ xs)) (λ k l e below in_xs.
      let within : l < length (x ∷ xs) = omega (arith, in_xs, length-map (x ∷ xs) number_of) in
      let one = get_or-map number_of (x ∷ xs) k x e (omega (arith, below, within)) in
      let other = get_or-map number_of (x ∷ xs) l x e within in
      ne_eqb _ _ (λ is. apart k l x below within (sym one ∙ is ∙ other)))

  pub distinct_apart : (xs : List X) → IsDistinct eqb (map number_of xs)
      → AllPairs (λ x y. number_of x ≢ number_of y) xs
  distinct_apart xs distinct i j d low within is =
      let mapped : j < length (map number_of xs) = omega (arith, within, length-map xs number_of) in
      let differ : get_or (map number_of xs) i 0 ≢ get_or (map number_of xs) j 0 =
      eqb-false _ _ (apart_from_distinct eqb (map number_of xs) i j 0 distinct low mapped) in
      let one = get_or-map number_of xs i d 0 (omega (arith, low, within)) in
      let other = get_or-map number_of xs j d 0 within in
      differ (one ∙ is ∙ sym other)

  pub rise_differ : (xs : List X) → NumbersRise number_of xs → AllPairs (λ x y. number_of x ≢ number_of y) xs
  rise_differ xs order i j d low within is = omega (arith, is, order i j d low within)

  -- numbers that rise in another order differ
  pub moved_differ : (xs sorted : List X) → IsPermutation xs sorted → NumbersRise number_of sorted
      → AllPairs (λ x y. number_of x ≢ number_of y) xs
  moved_differ xs sorted same order = distinct_apart xs
      (IsDistinct-IsPermutation eqb flips _ _ (IsPermutation-map number_of sorted xs (IsPermutation-sym _ _ same))
      (apart_distinct sorted (rise_differ sorted order)))

  -- sorted numbers of which no two are the same rise
  pub apart_rise : (xs sorted : List X) → IsPermutation xs sorted → IsNonDecreasingBy number_of sorted
      → AllPairs (λ x y. number_of x ≢ number_of y) xs → NumbersRise number_of sorted
  apart_rise xs sorted same order apart i j d low within =
      let distinct = IsDistinct-IsPermutation eqb flips _ _ (IsPermutation-map number_of xs sorted same)
      (apart_distinct xs apart) in
      let up = order i j d (omega (arith, low)) within in
      let differ : number_of (get_or sorted i d) ≢ number_of (get_or sorted j d) =
      distinct_apart sorted distinct i j d low within in
      omega (arith, up, differ)

-- ---- rowids

abbrev HasNatural : Values → Type 0
HasNatural row = rowid row ≡ natural (nat_in (rowid row))

abbrev row_numbers : List Values → List ℕ
row_numbers rows = map (λ row. nat_in (rowid row)) rows

-- different rowids that are numbers are different numbers
differ_numbers : (a b : Values) → HasNatural a → HasNatural b → Differ a b
    → eqb (nat_in (rowid a)) (nat_in (rowid b)) ≡ false
differ_numbers a b is_a is_b differ = ne_eqb _ _ (λ same.
    let alike : rowid b ≡ rowid a = is_b ∙ ap natural (sym same) ∙ sym is_a in
    let tied : is_eq (value_cmp (rowid a) (rowid b)) ≡ true =
    ap (λ v. is_eq (value_cmp (rowid a) v)) alike ∙ ap is_eq (tied_itself value_cmp_total (rowid a)) in
    absurd (cc))

differ_each : (a : Values) (rows : List Values) → HasNatural a → ((r : Values) → Contains rows r → HasNatural r)
    → AllByRecursion (Differ a) rows → AllByRecursion (λ n. eqb (nat_in (rowid a)) n ≡ false) (row_numbers rows)
differ_each a [] is numbers apart = tt
differ_each a (r ∷ rs) is numbers apart = (
  differ_numbers a r is (numbers r (contains_first r rs)) apart.0,
  differ_each a rs is (λ s there. numbers s (contains_later r s rs there)) apart.1,
)

distinct_rowids : (rows : List Values) → ((r : Values) → Contains rows r → HasNatural r) → HaveRowids rows
    → IsDistinct eqb (row_numbers rows)
unfolding IsDistinct
distinct_rowids [] numbers have = tt
distinct_rowids (r ∷ rs) numbers have =
    let later : (s : Values) → Contains rs s → HasNatural s = λ s there. numbers s (contains_later r s rs there) in
    (differ_each r rs (numbers r (contains_first r rs)) later have.1, distinct_rowids rs later have.2)

equal_from : (o : Ordering) → is_eq o ≡ true → o ≡ Equal
equal_from Less h = cc
equal_from Equal h = refl
equal_from Greater h = cc

pub same_int : (y z : ℤ) → is_eq (value_cmp (Int y) (Int z)) ≡ true → y ≡ z
same_int y z is = int_cmp-IsAntisymmetric y z (equal_from _ (sym (ap is_eq (value_cmp-Int y z)) ∙ is))

-- rowids that are different numbers differ
numbers_differ : (a b : Values) → HasNatural a → HasNatural b → eqb (nat_in (rowid a)) (nat_in (rowid b)) ≡ false
    → Differ a b
numbers_differ a b is_a is_b apart = go (is_eq (value_cmp (rowid a) (rowid b))) refl
  where
    go : (tied : Bool) → is_eq (value_cmp (rowid a) (rowid b)) ≡ tied → tied ≡ false
    go false e = refl
    go true e =
        let same = same_int _ _ ((λ i. is_eq (value_cmp (sym is_a i) (sym is_b i))) ∙ e) in
        absurd (eqb-false _ _ apart (ap (λ z. nat_in (Int z)) same))

differ_all : (a : Values) (rows : List Values) → HasNatural a → ((r : Values) → Contains rows r → HasNatural r)
    → AllByRecursion (λ n. eqb (nat_in (rowid a)) n ≡ false) (row_numbers rows) → AllByRecursion (Differ a) rows
differ_all a [] is numbers apart = tt
differ_all a (r ∷ rs) is numbers apart = (
  numbers_differ a r is (numbers r (contains_first r rs)) apart.0,
  differ_all a rs is (λ s there. numbers s (contains_later r s rs there)) apart.1,
)

-- rowids that are numbers, none twice
have_rowids : (rows : List Values) → ((r : Values) → Contains rows r → HasNatural r) → IsDistinct eqb (row_numbers rows)
    → HaveRowids rows
have_rowids [] numbers distinct = tt
have_rowids (r ∷ rs) numbers distinct =
    let here = numbers r (contains_first r rs) in
    let later : (s : Values) → Contains rs s → HasNatural s = λ s there. numbers s (contains_later r s rs there) in (
      subst (λ v. IsTrue (is_int v)) (sym here) refl,
      differ_all r rs here later (IsDistinct-head eqb _ _ distinct),
      have_rowids rs later (IsDistinct-tail eqb _ _ distinct),
    )

module _ {X : Type 0} (t : Table) (values_of : X → Values) (number_of : X → ℕ)
    (leads : ShowsNumbers t values_of number_of) where
  numbers_of_rows : (rows : List Values) → map (λ (v : Values). nat_in (column v 0)) (map (shown t) rows)
      ≡ row_numbers rows
  numbers_of_rows [] = refl
  numbers_of_rows (r ∷ rs) = λ i. nat_in (leads.of_row r i) ∷ numbers_of_rows rs i

  numbers_of_items : (xs : List X) → map (λ (v : Values). nat_in (column v 0)) (map values_of xs) ≡ map number_of xs
  numbers_of_items [] = refl
  numbers_of_items (x ∷ xs) = λ i. nat_in (leads.of_item x i) ∷ numbers_of_items xs i

  -- each row has the number of an item as its rowid
  naturals : (rows : List Values) (xs : List X) → IsPermutation (map (shown t) rows) (map values_of xs) → (r : Values)
      → Contains rows r → HasNatural r
  naturals rows xs same r there =
      let back = Contains-map_back values_of xs (shown t r)
      (Contains-permutation _ _ (shown t r) same (Contains-map (shown t) rows r there)) in
      let number = sym (leads.of_row r) ∙ ap (λ (v : Values). column v 0) (sym back.2) ∙ leads.of_item back.0 in
      number ∙ ap natural (ap nat_in (sym number))

  same_numbers : (rows : List Values) (xs : List X) → IsPermutation (map (shown t) rows) (map values_of xs)
      → IsPermutation (row_numbers rows) (map number_of xs)
  same_numbers rows xs same =
      subst (λ l. IsPermutation l (map number_of xs)) (numbers_of_rows rows)
      (subst (IsPermutation (map (λ (v : Values). nat_in (column v 0)) (map (shown t) rows))) (numbers_of_items xs)
      (IsPermutation-map (λ (v : Values). nat_in (column v 0)) _ _ same))

  -- the rows of items whose numbers rise have own rowids
  pub rise_rowids : (rows : List Values) (xs : List X) → IsPermutation (map (shown t) rows) (map values_of xs)
      → NumbersRise number_of xs → HaveRowids rows
  rise_rowids rows xs same order = have_rowids rows (naturals rows xs same)
      (IsDistinct-IsPermutation eqb flips (map number_of xs) (row_numbers rows)
      (IsPermutation-sym _ _ (same_numbers rows xs same))
      (apart_distinct number_of xs (rise_differ number_of xs order)))

  -- the items of rows with own rowids have own numbers
  pub items_apart : (rows : List Values) (xs : List X) → IsPermutation (map (shown t) rows) (map values_of xs)
      → HaveRowids rows → AllPairs (λ x y. number_of x ≢ number_of y) xs
  items_apart rows xs same have = distinct_apart number_of xs
      (IsDistinct-IsPermutation eqb flips (row_numbers rows) (map number_of xs) (same_numbers rows xs same)
      (distinct_rowids rows (naturals rows xs same) have))
