-- The order of a question is the order of a listing.
use Rattle.std.proofs.Common.{◌≡◌, ◌≢◌, ◌∙◌, ℕ, ◌+◌, ◌<◌, List, [], ◌∷◌, get_or, length, map, refl, sym}
use Rattle.std.proofs.Common.{ap, subst, arith, inl, inr, pos, Ordering, Less, Equal, Greater}
use Rattle.std.specs.Cmp.{IsTotalOrder, nat_cmp_total, on_total, ranks, then_total}
use Rattle.std.specs.Cmp.Lexicographic.{slice_cmp}
use Rattle.std.specs.FinMap.{IsAntisymmetric}
use Rattle.std.specs.List.{AllPairs}
use Rattle.std.specs.List.Sorted.{IsSorted, IsSortedByKey}
use Rattle.std.specs.Ordering.{int_cmp, is_lt, nat_cmp, on, ordering_then, then_cmp}
use Rattle.std.proofs.lemmas.Bool.Decides.{nat_tests}
use Rattle.std.proofs.lemmas.List.{get_or-map, length-map}
use Rattle.std.proofs.lemmas.List.Sorted.{IsPermutation-refl}
use Rattle.sqlite.specs.Order.{Row as Values}
use Rattle.sqlite.specs.declared.types.Value.TheVariants.{Text}
use Rattle.sqlite_value.specs.Order.{value_cmp}
use Rattle.sqlite_value.proofs.KeyLemmas.{then_below}
use Rattle.sqlite_value.proofs.OrderLemmas.{then-Equal, value_cmp-Int, value_cmp-Text}
use Rattle.occurrences.specs.Key.{KeyBefore, key_cmp}
use Rattle.occurrences.specs.Row.{RowBefore}
use Rattle.occurrences.specs.declared.key.Key.{Key}
use Rattle.occurrences.specs.declared.row.Row.{Row}
use Rattle.occurrences.proofs.KeyLemmas.{key_cmp_total, key_equal, key_ranks}
use Rattle.occurrences.proofs.OrderLemmas.{answer_means, then_equal}
use Rattle.plan_store_lists.proofs.EditLemmas.{sorted_keyed}
use Rattle.plan_tables_content.specs.Facts.{natural}

-- ---- by key and serial

abbrev Seat : Type 0
Seat = Key × ℕ

abbrev seat_of : Row → Seat
seat_of row = (row.key, row.serial)

abbrev seat_cmp : Seat → Seat → Ordering
seat_cmp = then_cmp (on (λ (s : Seat). s.0) key_cmp) (on (λ (s : Seat). s.1) nat_cmp)

seat_total : IsTotalOrder seat_cmp
seat_total = then_total (on_total (λ (s : Seat). s.0) key_cmp_total) (on_total (λ (s : Seat). s.1) nat_cmp_total)

same_number : (m n : ℕ) → nat_cmp m n ≡ Equal → m ≡ n
same_number m n e = answer_means nat_cmp (λ x y. x < y) ranks m n Equal e

seat_ties : IsAntisymmetric seat_cmp
seat_ties a b e =
    let both = then_equal (key_cmp a.0 b.0) (nat_cmp a.1 b.1) e in
    let key = key_equal a.0 b.0 both.0 in
    let serial = same_number a.1 b.1 both.1 in
    λ i. (key i, serial i)

before : (a b : Row) → seat_cmp (seat_of a) (seat_of b) ≡ Less → RowBefore a b
before a b less = elim (then_below (key_cmp a.key b.key) (nat_cmp a.serial b.serial) less) [
  | inl early ↦ inl (answer_means key_cmp KeyBefore key_ranks a.key b.key Less early)
  | inr tied ↦ inr (
    key_equal a.key b.key tied.0,
    answer_means nat_cmp (λ x y. x < y) ranks a.serial b.serial Less tied.1,
  )
]

-- ---- by the values of columns

-- arrival, application and serial, each as its column has it
abbrev pub columns_cmp : Row → Row → Ordering
columns_cmp a b = ordering_then (value_cmp (natural a.key.ia) (natural b.key.ia))
    (ordering_then (value_cmp (Text a.key.app) (Text b.key.app))
    (ordering_then (value_cmp (natural a.serial) (natural b.serial)) Equal))

numbers_compare : (m n : ℕ) → int_cmp (pos m) (pos n) ≡ nat_cmp m n
numbers_compare m n = grind (arith, nat_tests)

naturals_compare : (m n : ℕ) → value_cmp (natural m) (natural n) ≡ nat_cmp m n
naturals_compare m n = value_cmp-Int (pos m) (pos n) ∙ numbers_compare m n

in_turn : (o p r : Ordering) → ordering_then o (ordering_then p r) ≡ ordering_then (ordering_then o p) r
in_turn Less p r = refl
in_turn Equal p r = refl
in_turn Greater p r = refl

columns_are : (a b : Row) → columns_cmp a b ≡ seat_cmp (seat_of a) (seat_of b)
columns_are a b =
    (λ i. ordering_then (naturals_compare a.key.ia b.key.ia i)
    (ordering_then (value_cmp-Text a.key.app b.key.app i)
    (ordering_then (naturals_compare a.serial b.serial i) Equal)))
    ∙ ap (λ o. ordering_then (nat_cmp a.key.ia b.key.ia) (ordering_then (slice_cmp nat_cmp a.key.app b.key.app) o))
    (then-Equal (nat_cmp a.serial b.serial))
    ∙ in_turn (nat_cmp a.key.ia b.key.ia) (slice_cmp nat_cmp a.key.app b.key.app) (nat_cmp a.serial b.serial)

module _ {X : Type 0} (values_of : X → Values) (row_of : X → Row) (cmp : Values → Values → Ordering)
    (by_columns : (a b : X) → cmp (values_of a) (values_of b) ≡ columns_cmp (row_of a) (row_of b)) where
  by_seats : (xs : List X) → IsSorted cmp (map values_of xs) → IsSortedByKey (λ x. seat_of (row_of x)) seat_cmp xs
  by_seats xs sorted k d low within =
      let long = length-map xs values_of in
      let e = values_of d in
      let here = get_or-map values_of xs k d e (omega (arith, within)) in
      let next = get_or-map values_of xs (k + 1) d e within in
      ap is_lt (sym (by_columns (get_or xs (k + 1) d) (get_or xs k d)
      ∙ columns_are (row_of (get_or xs (k + 1) d)) (row_of (get_or xs k d))))
      ∙ (λ i. is_lt (cmp (sym next i) (sym here i)))
      ∙ sorted k e low (omega (arith, within, long))

  -- rows of which no two have a serial, sorted by the values of their columns, rise
  pub rows_rise : (xs : List X) → AllPairs (λ x y. (row_of x).serial ≢ (row_of y).serial) xs
      → IsSorted cmp (map values_of xs) → AllPairs (λ x y. RowBefore (row_of x) (row_of y)) xs
  rows_rise xs apart sorted i j d low within =
      before (row_of (get_or xs i d)) (row_of (get_or xs j d))
      (sorted_keyed seat_total seat_ties (λ (x : X). seat_of (row_of x)) xs xs
      (λ m n e below inside same. apart m n e below inside (ap (λ (s : Seat). s.1) same))
      (IsPermutation-refl xs) (by_seats xs sorted) i j d low within)

-- what is mapped stands in the order of what it is of
pub pairs_map : {X Y : Type 0} (f : X → Y) (R : Y → Y → Type 0) (xs : List X) → AllPairs (λ x y. R (f x) (f y)) xs
    → AllPairs R (map f xs)
pairs_map f R [] all i j d low within = absurd (omega (arith, within))
pairs_map f R (x ∷ xs) all i j d low within =
    let inside : j < length (x ∷ xs) = omega (arith, within, length-map (x ∷ xs) f) in
    let one = get_or-map f (x ∷ xs) i x d (omega (arith, low, inside)) in
    let two = get_or-map f (x ∷ xs) j x d inside in
    subst (λ u. R u (get_or (map f (x ∷ xs)) j d)) (sym one)
    (subst (λ u. R (f (get_or (x ∷ xs) i x)) u) (sym two) (all i j x low inside))
