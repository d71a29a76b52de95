-- Lists of rows that are printed: maps of lists, lists laid end to end, and lists in another order.
use Rattle.std.proofs.Common.{◌≡◌, ◌≢◌, ◌∙◌, ℕ, ◌-◌, ◌<◌, List, [], ◌∷◌, ◌++◌, length, get_or, set, map, refl, sym, ap}
use Rattle.std.proofs.Common.{subst, inl, inr, arith}
use Rattle.std.specs.List.{AllPairs, Contains, swap}
use Rattle.std.specs.List.Sorted.{IsPermutation}
use Rattle.std.specs.Ordering.{MatchOrdering}
use Rattle.std.specs.Prelude.{flat_map}
use Rattle.std.specs.declared.cmp.Ordering.TheVariants.{Equal, Less}
use Rattle.std.proofs.lemmas.Cmp.{tied_itself}
use Rattle.std.proofs.lemmas.Bool.{cases_lt, cases_order}
use Rattle.std.proofs.lemmas.List.{get_or-append_right, get_or_default, get_or-map, get_or_append_left, length-append}
use Rattle.std.proofs.lemmas.List.{length-map, map-set}
use Rattle.std.proofs.lemmas.List.Elements.{Contains-get_or}
use Rattle.std.proofs.lemmas.List.Sorted.{Contains-permutation, IsPermutation-keeps, IsPermutation-swap}
use Rattle.std.proofs.lemmas.List.Sorted.{IsPermutation-sym}
use Rattle.occurrences.specs.Row.{RowBefore, row_cmp}
use Rattle.occurrences.specs.declared.row.Row.{Row}
use Rattle.occurrences.proofs.RowLemmas.{row_cmp_total, row_equal, row_ranks}
use Rattle.plan_store_lists.proofs.EditLemmas.{sorted_keyed}
use Rattle.plan_store_lists.proofs.KeyLemmas.{contains_cases, contains_first, contains_later, nothing}
use Rattle.plan_listings.specs.Line.{AreLinesOf, ended}
use Rattle.plan_listings.specs.Report.{IsReport, IsSignedText}
use Rattle.plan_listings.specs.declared.report.Signed.{Signed}

-- ---- maps of lists

module _ {X Y : Type 0} (f : X → Y) where
  pub contains_map : (xs : List X) (y : Y) → Contains (map f xs) y → (x : X) × Contains xs x × (y ≡ f x)
  contains_map [] y there = absurd (nothing y there)
  contains_map (x ∷ xs) y there = elim (contains_cases (f x) y (map f xs) there) [
    | inl is ↦ (x, contains_first x xs, sym is)
    | inr later ↦ let (z, at, is) = contains_map xs y later in (z, contains_later x z xs at, is)
  ]

  pub map_contains : (xs : List X) (x : X) → Contains xs x → Contains (map f xs) (f x)
  map_contains [] x there = absurd (nothing x there)
  map_contains (z ∷ xs) x there = elim (contains_cases z x xs there) [
    | inl is ↦ subst (λ y. Contains (f z ∷ map f xs) (f y)) is (contains_first (f z) (map f xs))
    | inr later ↦ contains_later (f z) (f x) (map f xs) (map_contains xs x later)
  ]

  pub pairs_map : (R : Y → Y → Type 0) (xs : List X) → AllPairs (λ a b. R (f a) (f b)) xs → AllPairs R (map f xs)
  pairs_map R [] h i j d below lt = absurd (omega (arith, lt))
  pairs_map R (x ∷ xs) h i j d below lt =
      let short : j < length (x ∷ xs) = omega (arith, length-map (x ∷ xs) f) in
      rw (get_or-map f (x ∷ xs) i x d (omega arith), get_or-map f (x ∷ xs) j x d short) (h i j x below short)

  pub pairs_unmap : (R : Y → Y → Type 0) (xs : List X) → AllPairs R (map f xs) → AllPairs (λ a b. R (f a) (f b)) xs
  pairs_unmap R xs h i j d below lt =
      let long : j < length (map f xs) = omega (arith, length-map xs f) in
      subst (λ y. R y (f (get_or xs j d))) (get_or-map f xs i d (f d) (omega arith))
      (subst (λ y. R (get_or (map f xs) i (f d)) y) (get_or-map f xs j d (f d) lt) (h i j (f d) below long))

  swap_map : (l : List X) (i j : ℕ) → i < length l → j < length l → swap (map f l) i j ≡ map f (swap l i j)
  swap_map [] i j p q = refl
  swap_map (d ∷ ys) i j p q =
      let l = d ∷ ys in
      let at_i : get_or (map f l) i (f d) ≡ f (get_or l i d) = get_or-map f l i d (f d) p in
      let at_j : get_or (map f l) j (f d) ≡ f (get_or l j d) = get_or-map f l j d (f d) q in
      let first : set (map f l) i (get_or (map f l) j (f d)) ≡ map f (set l i (get_or l j d)) =
      ap (set (map f l) i) at_j ∙ sym (map-set f l i (get_or l j d)) in
      ap (λ y. set (set (map f l) i (get_or (map f l) j (f d))) j y) at_i
      ∙ ap (λ m. set m j (f (get_or l i d))) first ∙ sym (map-set f (set l i (get_or l j d)) j (get_or l i d))

  -- a list in another order is a map of some list in another order
  abbrev Lifts : List X → List Y → Type 0
  Lifts xs ys = (zs : List X) × (ys ≡ map f zs) × ((x : X) → Contains xs x → Contains zs x)
      × ((x : X) → Contains zs x → Contains xs x)

  pub lifted : (xs : List X) (ys : List Y) → IsPermutation (map f xs) ys → Lifts xs ys
  lifted xs ys moved = IsPermutation-keeps (map f xs) (Lifts xs) (xs, refl, (λ x h. h), (λ x h. h)) step ys moved
    where
      step : (l : List Y) (i j : ℕ) → i < length l → j < length l → Lifts xs l → Lifts xs (swap l i j)
      step l i j p q (zs, is, to, from) =
          let long : length l ≡ length zs = ap (λ (m : List Y). length m) is ∙ length-map zs f in
          let lt_i : i < length zs = omega (arith, long) in
          let lt_j : j < length zs = omega (arith, long) in
          let swapped = IsPermutation-swap zs (swap zs i j) i j lt_i lt_j refl in (
            swap zs i j,
            ap (λ m. swap m i j) is ∙ swap_map zs i j lt_i lt_j,
            (λ x h. Contains-permutation zs (swap zs i j) x swapped (to x h)),
            (λ x h. from x (Contains-permutation (swap zs i j) zs x (IsPermutation-sym zs (swap zs i j) swapped) h)),
          )

-- ---- lists laid end to end

pub pairs_append : {X : Type 0} (R : X → X → Type 0) (xs ys : List X) → AllPairs R xs → AllPairs R ys
    → ((x y : X) → Contains xs x → Contains ys y → R x y) → AllPairs R (xs ++ ys)
pairs_append R xs ys left_pairs right_pairs below i j d lt lt_j = elim (cases_lt j (length xs)) [
  | inl left ↦ rw (get_or_append_left xs ys d i (omega arith), get_or_append_left xs ys d j left)
      (left_pairs i j d lt left)
  | inr right ↦
      let short : j - length xs < length ys = omega (arith, length-append xs ys) in
      let at_j = get_or-append_right xs ys (length xs) j d refl right in
      elim (cases_lt i (length xs)) [
        | inl left ↦ rw (get_or_append_left xs ys d i left, at_j)
            (below (get_or xs i d) (get_or ys (j - length xs) d) (Contains-get_or xs i d left)
            (Contains-get_or ys (j - length xs) d short))
        | inr both ↦ rw (get_or-append_right xs ys (length xs) i d refl both, at_j)
            (right_pairs (i - length xs) (j - length xs) d (omega arith) short)
      ]
]

-- ---- serials

-- where no two places have one serial, one item has it
pub one_each : {X : Type 0} (serial_of : X → ℕ) (xs : List X) → AllPairs (λ x y. serial_of x ≡ serial_of y → ⊥) xs
    → (x y : X) → Contains xs x → Contains xs y → serial_of x ≡ serial_of y → x ≡ y
one_each serial_of xs once x y (i, lt_i, at_i) (j, lt_j, at_j) same =
    let at_j' : get_or xs j x ≡ y = get_or_default xs j x y lt_j ∙ at_j in
    let alike : serial_of (get_or xs i x) ≡ serial_of (get_or xs j x) = ap serial_of at_i ∙ same
    ∙ ap serial_of (sym at_j') in
    elim (cases_order i j) [
      | inl is ↦ sym at_i ∙ ap (λ n. get_or xs n x) is ∙ at_j'
      | inr (inl below) ↦ absurd (once i j x below lt_j alike)
      | inr (inr above) ↦ absurd (once j i x above lt_i (sym alike))
    ]

-- ---- rows in the order of lists

pub before_from_less : (a b : Row) → a.serial ≢ b.serial → row_cmp a b ≡ Less → RowBefore a b
before_from_less a b other less = subst (λ o. MatchOrdering o (RowBefore a b) ⊥ (RowBefore b a)) less
    (row_ranks a b other)

module _ {X : Type 0} (signed : X → Signed) where
  abbrev serial_of : X → ℕ
  serial_of x = (signed x).row.serial

  -- a report of these rows, of which no two have one serial: they are printed in the order of rows
  pub record Shown (items : List X) (text : List ℕ) : Type 0 where
    pub shown : List X
    pub rising : AllPairs (λ a b. RowBefore (signed a).row (signed b).row) shown
    pub to : (x : X) → Contains items x → Contains shown x
    pub from : (x : X) → Contains shown x → Contains items x
    pub lines : List (List ℕ)
    pub are_lines : AreLinesOf (λ x. IsSignedText (signed x)) shown lines
    pub prints : text ≡ flat_map ended lines

  lines_unmap : (xs : List X) (lines : List (List ℕ)) → AreLinesOf IsSignedText (map signed xs) lines
      → AreLinesOf (λ x. IsSignedText (signed x)) xs lines
  lines_unmap [] [] h = h
  lines_unmap [] (line ∷ lines) h = h
  lines_unmap (x ∷ xs) [] h = h
  lines_unmap (x ∷ xs) (line ∷ lines) h = (h.0, lines_unmap xs lines h.1)

  pub shown_by : (items : List X) (text : List ℕ) → AllPairs (λ a b. serial_of a ≡ serial_of b → ⊥) items
      → IsReport (map signed items) text → Shown items text
  shown_by items text apart report =
      let one = one_each serial_of items apart in
      let rows_apart : AllPairs (λ (a b : Signed). a.row ≢ b.row) (map signed items) =
      pairs_map signed (λ (a b : Signed). a.row ≢ b.row) items
      (λ i j d below lt same. apart i j d below lt (ap (λ (r : Row). r.serial) same)) in
      let keyed : AllPairs (λ (a b : Signed). row_cmp a.row b.row ≡ Less) report.shown =
      sorted_keyed row_cmp_total row_equal (λ (s : Signed). s.row) (map signed items) report.shown rows_apart
      report.exactly report.rising in
      let (zs, is, to, from) = lifted signed items report.shown report.exactly in
      let less = pairs_unmap signed (λ (a b : Signed). row_cmp a.row b.row ≡ Less) zs
      (subst (λ (l : List Signed). AllPairs (λ (a b : Signed). row_cmp a.row b.row ≡ Less) l) is keyed) in
      record {
        shown = zs;
        rising = λ i j d below lt.
            let a = get_or zs i d in
            let b = get_or zs j d in
            let first = less i j d below lt in
            before_from_less (signed a).row (signed b).row
            (λ same. less_apart a b first
            (one a b (from a (Contains-get_or zs i d (omega arith))) (from b (Contains-get_or zs j d lt)) same)) first;
        to = to;
        from = from;
        lines = report.lines;
        are_lines = lines_unmap zs report.lines
            (subst (λ (l : List Signed). AreLinesOf IsSignedText l report.lines) is report.are_lines);
        prints = report.prints;
      }
    where
      less_apart : (a b : X) → row_cmp (signed a).row (signed b).row ≡ Less → a ≡ b → ⊥
      less_apart a b less same =
          let tied = tied_itself row_cmp_total (signed a).row in
          let e = subst (λ c. row_cmp (signed a).row (signed c).row ≡ Less) (sym same) less in
          let no : Less ≡ Equal = sym e ∙ tied in let h : ⊥ = cc no in h
