-- Lists in byte order of their names.
use Rattle.std.proofs.Common.{◌≡◌, ◌≢◌, ◌⊎◌, ◌∙◌, sym, refl, ap, subst, inl, inr, ℕ, zero, suc, ◌+◌, ◌-◌, ◌<◌, ◌≤◌}
use Rattle.std.proofs.Common.{List, [], ◌∷◌, length, map, get_or, true, false, Ordering, Less, Equal, Greater, Result}
use Rattle.std.proofs.Common.{Ok, Err, arith}
use Rattle.std.specs.Prelude.{AllPairs, Any, Contains, IfOk, IfErr}
use Rattle.std.specs.List.{HoldsAt, insert}
use Rattle.std.specs.List.Sorted.{IsBinarySearchResult, IsNonDecreasingBy, IsSearchInRange, IsSortedBy}
use Rattle.std.specs.Ordering.{nat_cmp, is_ge, is_lt, ordering_index, ordering_reverse}
use Rattle.std.specs.Cmp.{tied_itself}
use Rattle.std.specs.Cmp.Lexicographic.{slice_cmp, nat_list_cmp_total}
use Rattle.std.specs.FinMap.{slice_cmp-IsAntisymmetric, nat_cmp-IsAntisymmetric}
use Rattle.std.proofs.Math.Nat.{eq-or-lt_of_le}
use Rattle.std.proofs.lemmas.Bool.{cases_lt, false≢true}
use Rattle.std.proofs.lemmas.List.{get_or-map, get_or_default, length-map}
use Rattle.std.proofs.lemmas.List.Edits.{length-insert, get_or-insert_below, get_or-insert_at, get_or-insert_above}
use Rattle.std.proofs.lemmas.List.Sorted.{searchable_from_sorted, IsPermutation-insert, IsPermutation-sym}
use Rattle.std.proofs.lemmas.List.Sorted.{Contains-permutation}
use Rattle.app_definition_records.specs.Rising.{IsBelow, AreRising, IsPlaceFor}

-- the order of names from the other side
pub above : (a b : List ℕ) → IsBelow a b → slice_cmp nat_cmp b a ≡ Greater
above a b e = nat_list_cmp_total.antisymm b a ∙ ap ordering_reverse e

pub below : (a b : List ℕ) → slice_cmp nat_cmp a b ≡ Greater → IsBelow b a
below a b e = nat_list_cmp_total.antisymm b a ∙ ap ordering_reverse e

-- no name is below itself
pub not_itself : (a : List ℕ) → IsBelow a a → ⊥
not_itself a e = let same : slice_cmp nat_cmp a a ≡ Equal = tied_itself nat_list_cmp_total a in let no : ⊥ = cc in no

-- a rising list has no name twice
pub own_names : {X : Type 0} (name_of : X → List ℕ) (xs : List X) → AreRising name_of xs
    → AllPairs (λ x y. name_of x ≢ name_of y) xs
own_names name_of xs rising i j d lt within same =
    not_itself (name_of (get_or xs j d)) (subst (λ n. IsBelow n (name_of (get_or xs j d))) same
    (rising i j d lt within))

-- a rising list can be searched
sorted_below : {X : Type 0} (name_of : X → List ℕ) (xs : List X) → AreRising name_of xs
    → IsSortedBy (λ x y. is_lt (slice_cmp nat_cmp (name_of x) (name_of y))) xs
sorted_below name_of xs rising k d low high =
    let up : IsBelow (name_of (get_or xs k d)) (name_of (get_or xs (k + 1) d)) =
    rising k (k + 1) d (omega arith) (omega (arith, high)) in
    ap is_lt (above (name_of (get_or xs k d)) (name_of (get_or xs (k + 1) d)) up)

searchable : {X : Type 0} (name_of : X → List ℕ) (xs : List X) (name : List ℕ) → AreRising name_of xs
    → IsNonDecreasingBy (λ x. ordering_index (slice_cmp nat_cmp (name_of x) name)) xs
searchable name_of xs name rising = searchable_from_sorted nat_list_cmp_total name_of xs name
    (sorted_below name_of xs rising)

-- what a search has found
pub found_at : {X : Type 0} (name_of : X → List ℕ) (xs : List X) (name : List ℕ) (r : Result ℕ ℕ)
    → IsBinarySearchResult (λ x. slice_cmp nat_cmp (name_of x) name) xs r → IsSearchInRange r (length xs)
    → IfOk r (λ i. (i < length xs) × HoldsAt (λ x. name_of x ≡ name) xs i)
found_at name_of xs name (Ok i) found within =
    (within, λ d. slice_cmp-IsAntisymmetric nat_cmp-IsAntisymmetric (name_of (get_or xs i d)) name (found d))
found_at name_of xs name (Err i) found within = tt

-- and where it has found none
pub place_for : {X : Type 0} (name_of : X → List ℕ) (xs : List X) (name : List ℕ) (r : Result ℕ ℕ)
    → AreRising name_of xs
    → IsBinarySearchResult (λ x. slice_cmp nat_cmp (name_of x) name) xs r → IsSearchInRange r (length xs)
    → IfErr r (IsPlaceFor name_of xs name)
place_for name_of xs name (Ok i) rising free within = tt
place_for name_of xs name (Err i) rising free within =
    let parts = free (searchable name_of xs name rising) in
    record {
      within = within;
      before = parts.0;
      after = λ k d low high. below (name_of (get_or xs k d)) name (parts.1 k d low high);
    }

-- no name stands where there is a place for it
pub none_named : {X : Type 0} (name_of : X → List ℕ) (xs : List X) (name : List ℕ) (i : ℕ)
    → IsPlaceFor name_of xs name i → Any (λ x. name_of x ≡ name) xs → ⊥
none_named name_of xs name i place (k, x, lt, is, named) =
    let here : name_of (get_or xs k x) ≡ name = ap name_of is ∙ named in
    elim (cases_lt k i) [
      | inl less ↦ not_itself name (subst (λ n. IsBelow n name) here (place.before k x (omega arith) less))
      | inr more ↦ not_itself name (subst (λ n. IsBelow name n) here (place.after k x more lt))
    ]

-- a place before, at or after another
pub three : (k i : ℕ) → (k < i) ⊎ ((k ≡ i) ⊎ (i < k))
three k i = elim (cases_lt k i) [
  | inl less ↦ inl less
  | inr more ↦ inr
      (elim (eq-or-lt_of_le {n = i} {m = k} more) [ inl e ↦ inl (sym e) | inr less ↦ inr less ])
]

-- with one more at its place the list rises
pub rising-insert : {X : Type 0} (name_of : X → List ℕ) (xs : List X) (y : X) (i : ℕ)
    → IsPlaceFor name_of xs (name_of y) i → AreRising name_of xs → AreRising name_of (insert xs i y)
rising-insert {X} name_of xs y i place rising a b d lt within = at (three a i) (three b i)
  where
    long : length (insert xs i y) ≡ length xs + 1
    long = length-insert xs i y place.within

    here : get_or (insert xs i y) i d ≡ y
    here = get_or-insert_at xs i y d place.within

    front : (k : ℕ) → k < i → get_or (insert xs i y) k d ≡ get_or xs k d
    front k less = get_or-insert_below xs i y d k less place.within

    back : (k : ℕ) → i < k → get_or (insert xs i y) k d ≡ get_or xs (k - 1) d
    back k more = let e : (k - 1) + 1 ≡ k = omega (arith, more) in
        ap (λ n. get_or (insert xs i y) n d) (sym e)
        ∙ get_or-insert_above xs i y d (k - 1) (omega (arith, more)) place.within

    at : (a < i) ⊎ ((a ≡ i) ⊎ (i < a)) → (b < i) ⊎ ((b ≡ i) ⊎ (i < b))
        → IsBelow (name_of (get_or (insert xs i y) a d)) (name_of (get_or (insert xs i y) b d))
    at (inl p) (inl q) = rw (front a p, front b q) (rising a b d lt (omega (arith, q, place.within)))
    at (inl p) (inr (inl q)) = rw (front a p, ap (λ n. get_or (insert xs i y) n d) q, here)
        (place.before a d (omega arith) p)
    at (inl p) (inr (inr q)) = rw (front a p, back b q)
        (rising a (b - 1) d (omega (arith, p, q)) (omega (arith, q, within, long)))
    at (inr (inl p)) (inl q) = absurd (omega (arith, p, q, lt))
    at (inr (inl p)) (inr (inl q)) = absurd (omega (arith, p, q, lt))
    at (inr (inl p)) (inr (inr q)) = rw (ap (λ n. get_or (insert xs i y) n d) p, here, back b q)
        (place.after (b - 1) d (omega (arith, q)) (omega (arith, q, within, long)))
    at (inr (inr p)) (inl q) = absurd (omega (arith, p, q, lt))
    at (inr (inr p)) (inr (inl q)) = absurd (omega (arith, p, q, lt))
    at (inr (inr p)) (inr (inr q)) = rw (back a p, back b q)
        (rising (a - 1) (b - 1) d (omega (arith, p, lt)) (omega (arith, q, within, long)))

-- what stands in a list with one more
pub Contains-insert_new : {X : Type 0} (xs : List X) (i : ℕ) (y : X) → Contains (insert xs i y) y
Contains-insert_new xs i y = Contains-permutation (y ∷ xs) (insert xs i y) y (IsPermutation-insert xs i y)
    (0, omega arith, refl)

pub Contains-insert_old : {X : Type 0} (xs : List X) (i : ℕ) (y x : X) → Contains xs x → Contains (insert xs i y) x
Contains-insert_old xs i y x (k, lt, is) =
    Contains-permutation (y ∷ xs) (insert xs i y) x (IsPermutation-insert xs i y) (suc k, omega (arith, lt), is)

pub Contains-insert_cases : {X : Type 0} (xs : List X) (i : ℕ) (y x : X) → Contains (insert xs i y) x → Contains xs x
    ⊎ (x ≡ y)
Contains-insert_cases xs i y x has = from
    (Contains-permutation (insert xs i y) (y ∷ xs) x
    (IsPermutation-sym (y ∷ xs) (insert xs i y) (IsPermutation-insert xs i y)) has)
  where
    from : Contains (y ∷ xs) x → Contains xs x ⊎ (x ≡ y)
    from (zero, lt, is) = inr (sym is)
    from (suc k, lt, is) = inl (k, omega (arith, lt), is)

-- the element at a place
element_at : {X : Type 0} (xs : List X) (k : ℕ) → k < length xs → (x : X) × (get_or xs k x ≡ x)
element_at [] k h = absurd (omega (arith, h))
element_at (x ∷ xs) zero h = (x, refl)
element_at (x ∷ xs) (suc k) h = element_at xs k (omega (arith, h))

-- the one element of a list
pub only : {X : Type 0} (x y : X) → Contains (x ∷ []) y → x ≡ y
only x y (zero, lt, is) = is
only x y (suc k, lt, is) = absurd (omega (arith, lt))

-- what stands among the images of a list
pub Contains-map : {X Y : Type 0} (f : X → Y) (xs : List X) (x : X) → Contains xs x → Contains (map f xs) (f x)
Contains-map f xs x (k, lt, is) = (k, omega (arith, lt, length-map xs f), get_or-map f xs k x (f x) lt ∙ ap f is)

pub Contains-map_back : {X Y : Type 0} (f : X → Y) (xs : List X) (y : Y) → Contains (map f xs) y → (x : X)
    × Contains xs x × (f x ≡ y)
Contains-map_back f xs y (k, lt, is) =
    let within : k < length xs = omega (arith, lt, length-map xs f) in
    let at = element_at xs k within in
    (at.0, (k, within, at.1), ap f (sym at.1) ∙ sym (get_or-map f xs k at.0 y within) ∙ is)

-- ---- rising lists of the same elements are the same

head_below : {X : Type 0} (name_of : X → List ℕ) (x : X) (xs : List X) → AreRising name_of (x ∷ xs) → (y : X)
    → Contains xs y → IsBelow (name_of x) (name_of y)
head_below name_of x xs rising y (k, lt, is) =
    subst (λ z. IsBelow (name_of x) (name_of z)) is (rising zero (suc k) y (omega arith) (omega (arith, lt)))

tail_rising : {X : Type 0} (name_of : X → List ℕ) (x : X) (xs : List X) → AreRising name_of (x ∷ xs)
    → AreRising name_of xs
tail_rising name_of x xs rising i j d lt within = rising (suc i) (suc j) d (omega (arith, lt)) (omega (arith, within))

-- what a list has behind its first element
pub behind : {X : Type 0} (x : X) (xs : List X) (y : X) → Contains (x ∷ xs) y → (x ≡ y) ⊎ Contains xs y
behind x xs y (zero, lt, is) = inl is
behind x xs y (suc k, lt, is) = inr (k, omega (arith, lt), is)

pub first_of_list : {X : Type 0} (x : X) (xs : List X) → Contains (x ∷ xs) x
first_of_list x xs = (zero, omega arith, refl)

pub later_of_list : {X : Type 0} (x : X) (xs : List X) (y : X) → Contains xs y → Contains (x ∷ xs) y
later_of_list x xs y (k, lt, is) = (suc k, omega (arith, lt), is)

both_below : (a b : List ℕ) → IsBelow a b → IsBelow b a → ⊥
both_below a b p q = let r = above a b p in let no : ⊥ = cc in no

same_first : {X : Type 0} (name_of : X → List ℕ) (x y : X) (xs ys : List X) → AreRising name_of (x ∷ xs)
    → AreRising name_of (y ∷ ys)
    → (x ≡ y) ⊎ Contains xs y → (y ≡ x) ⊎ Contains ys x → x ≡ y
same_first name_of x y xs ys up vp (inl e) there = e
same_first name_of x y xs ys up vp (inr a) (inl e) = sym e
same_first name_of x y xs ys up vp (inr a) (inr b) =
    absurd (both_below (name_of x) (name_of y) (head_below name_of x xs up y a) (head_below name_of y ys vp x b))

peeled : {X : Type 0} (name_of : X → List ℕ) (x y : X) (xs ys : List X) → x ≡ y → AreRising name_of (x ∷ xs)
    → ((z : X) → Contains (x ∷ xs) z → Contains (y ∷ ys) z) → (z : X) → Contains xs z → Contains ys z
peeled name_of x y xs ys e up into z has = elim (behind y ys z (into z (later_of_list x xs z has))) [
  | inl same ↦ absurd (not_itself (name_of z)
      (subst (λ n. IsBelow (name_of n) (name_of z)) (e ∙ same) (head_below name_of x xs up z has)))
  | inr there ↦ there
]

pub same_rising : {X : Type 0} (name_of : X → List ℕ) (xs ys : List X) → AreRising name_of xs → AreRising name_of ys
    → ((x : X) → Contains xs x → Contains ys x) → ((x : X) → Contains ys x → Contains xs x) → xs ≡ ys
same_rising name_of [] [] up vp into back = refl
same_rising name_of [] (y ∷ ys) up vp into back = let (k, lt, is) = back y (first_of_list y ys) in
    absurd (omega (arith, lt))
same_rising name_of (x ∷ xs) [] up vp into back = let (k, lt, is) = into x (first_of_list x xs) in
    absurd (omega (arith, lt))
same_rising name_of (x ∷ xs) (y ∷ ys) up vp into back =
    let e = same_first name_of x y xs ys up vp (behind x xs y (back y (first_of_list y ys)))
    (behind y ys x (into x (first_of_list x xs))) in
    ap (λ z. z ∷ xs) e ∙ ap (λ zs. y ∷ zs) (same_rising name_of xs ys (tail_rising name_of x xs up)
    (tail_rising name_of y ys vp) (peeled name_of x y xs ys e up into) (peeled name_of y x ys xs (sym e) vp back))

-- up to a place, each name is below the next
abbrev pub RisesTo : {X : Type 0} → (X → List ℕ) → List X → ℕ → Type 0
RisesTo {X} name_of xs i = (k : ℕ) (d : X) → k + 1 < i
    → IsBelow (name_of (get_or xs k d)) (name_of (get_or xs (k + 1) d))

pub rises_none : {X : Type 0} (name_of : X → List ℕ) (xs : List X) → RisesTo name_of xs 1
rises_none name_of xs k d h = absurd (omega (arith, h))

-- a name that is not at or above the next is below it
not_reached : (o : Ordering) → is_ge o ≡ false → o ≡ Less
not_reached Less h = refl
not_reached Equal h = absurd (false≢true (sym h))
not_reached Greater h = absurd (false≢true (sym h))

reached : (o : Ordering) → is_ge o ≡ true → o ≡ Less → ⊥
reached Less h e = false≢true h
reached Equal h e = let x : ⊥ = cc in x
reached Greater h e = let x : ⊥ = cc in x

pub rises_more : {X : Type 0} (name_of : X → List ℕ) (xs : List X) (i : ℕ) (x y : X) → RisesTo name_of xs i → 1 ≤ i
    → i < length xs
    → x ≡ get_or xs (i - 1) x → y ≡ get_or xs i y → is_ge (slice_cmp nat_cmp (name_of x) (name_of y)) ≡ false
    → RisesTo name_of xs (i + 1)
rises_more name_of xs i x y rises some within at_x at_y not k d h = elim (cases_lt (k + 1) i) [
  | inl less ↦ rises k d less
  | inr more ↦
      let here : k + 1 ≡ i = omega (arith, h, more) in
      let before : i - 1 ≡ k = omega (arith, here) in
      let fst : x ≡ get_or xs k d = at_x ∙ get_or_default xs (i - 1) x d (omega (arith, within))
      ∙ ap (λ n. get_or xs n d) before in
      let snd : y ≡ get_or xs (k + 1) d = at_y ∙ get_or_default xs i y d within ∙ ap (λ n. get_or xs n d) (sym here) in
      subst (λ v. IsBelow (name_of v) (name_of (get_or xs (k + 1) d))) fst
      (subst (λ w. IsBelow (name_of x) (name_of w)) snd
      (not_reached (slice_cmp nat_cmp (name_of x) (name_of y)) not))
]

-- where one isn't below the next, the list doesn't rise
pub not_rising : {X : Type 0} (name_of : X → List ℕ) (xs : List X) (i : ℕ) (x y : X) → 1 ≤ i → i < length xs
    → x ≡ get_or xs (i - 1) x → y ≡ get_or xs i y → is_ge (slice_cmp nat_cmp (name_of x) (name_of y)) ≡ true
    → AreRising name_of xs → ⊥
not_rising name_of xs i x y some within at_x at_y ge rising =
    let snd : y ≡ get_or xs i x = at_y ∙ get_or_default xs i y x within in
    let up : IsBelow (name_of (get_or xs (i - 1) x)) (name_of (get_or xs i x)) =
    rising (i - 1) i x (omega (arith, some)) within in
    reached (slice_cmp nat_cmp (name_of x) (name_of y)) ge
    (subst (λ v. IsBelow (name_of v) (name_of y)) (sym at_x)
    (subst (λ w. IsBelow (name_of (get_or xs (i - 1) x)) (name_of w)) (sym snd) up))

-- a list that rises to its end
far : {X : Type 0} (name_of : X → List ℕ) (xs : List X) (i : ℕ) (d : X) (n : ℕ) → RisesTo name_of xs (length xs)
    → i + n + 1 < length xs → IsBelow (name_of (get_or xs i d)) (name_of (get_or xs (i + n + 1) d))
far name_of xs i d zero rises within = let e : i + 0 + 1 ≡ i + 1 = omega arith in
    rw e (rises i d (omega (arith, within)))
far name_of xs i d (suc n) rises within =
    let e : i + suc n + 1 ≡ (i + n + 1) + 1 = omega arith in
    rw e (nat_list_cmp_total.trans (name_of (get_or xs i d)) (name_of (get_or xs (i + n + 1) d))
    (name_of (get_or xs ((i + n + 1) + 1) d))
    (far name_of xs i d n rises (omega (arith, within))) (rises (i + n + 1) d (omega (arith, within))))

pub rising_all : {X : Type 0} (name_of : X → List ℕ) (xs : List X) (end : ℕ) → RisesTo name_of xs end
    → length xs ≤ end → AreRising name_of xs
rising_all name_of xs end rises all i j d lt within =
    let e : i + (j - i - 1) + 1 ≡ j = omega (arith, lt) in
    subst (λ n. IsBelow (name_of (get_or xs i d)) (name_of (get_or xs n d))) e
    (far name_of xs i d (j - i - 1) (λ k x h. rises k x (omega (arith, h, all))) (omega (arith, lt, within)))
