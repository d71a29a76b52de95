-- Lists in the order of a key, and searches in them.
use Rattle.std.proofs.Common.{◌≡◌, ◌≢◌, ℕ, zero, suc, ◌+◌, ◌<◌, ◌≤◌, ◌⊎◌, ◌||◌, Bool, true, false, cond, List, [], ◌∷◌}
use Rattle.std.proofs.Common.{length, get_or, refl, sym, ap, subst, ◌∙◌, inl, inr, arith, Ordering, Result, Ok, Err}
use Rattle.std.proofs.Common.{IfOk, IfErr}
use Rattle.std.specs.declared.cmp.Ordering.TheVariants.{Less, Equal, Greater}
use Rattle.std.specs.List.{Contains, HoldsAt, filter}
use Rattle.std.specs.List.Sorted.{IsPartitionPoint, IsNonDecreasingBy, IsBinarySearchResult, IsSearchInRange}
use Rattle.std.specs.Cmp.{IsTotalOrder}
use Rattle.std.specs.FinMap.{IsAntisymmetric}
use Rattle.std.specs.Ordering.{ordering_index, is_lt, ordering_reverse}
use Rattle.std.proofs.lemmas.Cmp.{tied_itself}
use Rattle.std.proofs.lemmas.List.{get_or_default}
use Rattle.std.proofs.lemmas.List.Sorted.{searchable_from_sorted}
use Rattle.std.proofs.lemmas.Bool.{cases_order, cases_lt, false≢true}
use Rattle.std.specs.Ordering.{is_eq}
use Rattle.std.specs.Result.{is_ok}
use Rattle.plan_store_lists.specs.Keyed.{IsKeyed, HasKey, LacksKey, holds_key}

-- lists and what they contain
module _ {X : Type 0} where
  pub contains_first : (x : X) (xs : List X) → Contains (x ∷ xs) x
  contains_first x xs = (zero, omega arith, refl)

  pub contains_later : (x y : X) (xs : List X) → Contains xs y → Contains (x ∷ xs) y
  contains_later x y xs (k, lt, at) = (suc k, omega arith, at)

  pub contains_cases : (x z : X) (xs : List X) → Contains (x ∷ xs) z → (x ≡ z) ⊎ Contains xs z
  contains_cases x z xs (zero, lt, at) = inl at
  contains_cases x z xs (suc k, lt, at) = inr (k, omega arith, at)

  pub nothing : (x : X) → Contains [] x → ⊥
  nothing x (k, lt, at) = omega arith

  pub one_is : (x y : X) → Contains (x ∷ []) y → x ≡ y
  one_is x y (zero, lt, at) = at
  one_is x y (suc k, lt, at) = absurd (omega arith)

  pub contains_filter : (p : X → Bool) (xs : List X) (z : X) → Contains (filter p xs) z → Contains xs z × (p z ≡ true)
  contains_filter p [] z there = absurd (nothing z there)
  contains_filter p (x ∷ xs) z there = elim (p x) as (λ b. p x ≡ b → Contains (cond b (x ∷ filter p xs) (filter p xs)) z
      → Contains (x ∷ xs) z × (p z ≡ true)) [
        | true ↦ λ e there. elim (contains_cases x z (filter p xs) there) [
          | inl at ↦ (subst (Contains (x ∷ xs)) at (contains_first x xs), subst (λ y. p y ≡ true) at e)
          | inr rest ↦ let is = contains_filter p xs z rest in (contains_later x z xs is.0, is.1)
        ]
        | false ↦ λ _ there. let is = contains_filter p xs z there in (contains_later x z xs is.0, is.1)
      ] refl there

  pub filter_contains : (p : X → Bool) (xs : List X) (z : X) → Contains xs z → p z ≡ true → Contains (filter p xs) z
  filter_contains p [] z there passes = absurd (nothing z there)
  filter_contains p (x ∷ xs) z there passes =
      elim (p x) as (λ b. p x ≡ b → Contains (cond b (x ∷ filter p xs) (filter p xs)) z) [
        | true ↦ λ _. elim (contains_cases x z xs there) [
          | inl at ↦ subst (Contains (x ∷ filter p xs)) at (contains_first x (filter p xs))
          | inr rest ↦ contains_later x z (filter p xs) (filter_contains p xs z rest passes)
        ]
        | false ↦ λ e. elim (contains_cases x z xs there) [
          | inl at ↦ absurd (false≢true (sym e ∙ subst (λ y. p y ≡ true) (sym at) passes))
          | inr rest ↦ filter_contains p xs z rest passes
        ]
      ] refl

or_true : (b : Bool) → (b || true) ≡ true
or_true true = refl
or_true false = refl

not_equal : (o : Ordering) → (o ≡ Equal → ⊥) → is_eq o ≡ false
not_equal Less apart = refl
not_equal Equal apart = absurd (apart refl)
not_equal Greater apart = refl

module _ {X K : Type 0} {cmp : K → K → Ordering} (total : IsTotalOrder cmp) (ties : IsAntisymmetric cmp) (key : X → K)
  where
    pub less_apart : (a b : K) → cmp a b ≡ Less → a ≢ b
    less_apart a b less same = let tied : cmp a b ≡ Equal = subst (λ z. cmp a z ≡ Equal) same (tied_itself total a) in
        cc

    pub greater_apart : (a b : K) → cmp a b ≡ Greater → a ≢ b
    greater_apart a b greater same = let tied : cmp a b ≡ Equal = subst (λ z. cmp a z ≡ Equal) same
        (tied_itself total a) in cc

    -- not above and apart is below
    pub less_from : (a b : K) → is_lt (cmp b a) ≡ false → a ≢ b → cmp a b ≡ Less
    less_from a b above apart = elim (cmp a b) as (λ r. cmp a b ≡ r → r ≡ Less) [
      | Less ↦ λ _. refl
      | Equal ↦ λ e. absurd (apart (ties a b e))
      | Greater ↦ λ e. let flipped : cmp b a ≡ Less = total.antisymm b a ∙ ap ordering_reverse e in
          absurd (false≢true (sym above ∙ ap is_lt flipped))
    ] refl

    -- a list in the order of keys serves a search
    pub searchable : (xs : List X) → IsKeyed cmp key xs → (k : K)
        → IsNonDecreasingBy (λ y. ordering_index (cmp (key y) k)) xs
    searchable xs rising s = searchable_from_sorted total key xs s
        (λ k d _ lt. ap is_lt (total.antisymm (key (get_or xs (k + 1) d)) (key (get_or xs k d)) ∙ ap ordering_reverse
        (rising k (k + 1) d (omega arith) lt)))

    -- each key stands at one place
    pub one_place : (xs : List X) → IsKeyed cmp key xs → (i j : ℕ) (d : X) → i < length xs → j < length xs
        → key (get_or xs i d) ≡ key (get_or xs j d) → i ≡ j
    one_place xs rising i j d lt_i lt_j same = elim (cases_order i j) [
      | inl is ↦ is
      | inr (inl below) ↦ absurd (less_apart _ _ (rising i j d below lt_j) same)
      | inr (inr above) ↦ absurd (less_apart _ _ (rising j i d above lt_i) (sym same))
    ]

    pub one_item : (xs : List X) → IsKeyed cmp key xs → (x y : X) → Contains xs x → Contains xs y → key x ≡ key y → x
        ≡ y
    one_item xs rising x y (i, lt_i, at_i) (j, lt_j, at_j) same =
        let at_j' : get_or xs j x ≡ y = get_or_default xs j x y lt_j ∙ at_j in
        let place : i ≡ j = one_place xs rising i j x lt_i lt_j (ap key at_i ∙ same ∙ ap key (sym at_j')) in
        sym at_i ∙ ap (λ n. get_or xs n x) place ∙ at_j'

    -- what a search answers
    pub found : (xs : List X) (s : K) (r : Result ℕ ℕ) → IsSearchInRange r (length xs) → IsBinarySearchResult
        (λ x. cmp (key x) s) xs r → IfOk r (λ i. (i < length xs) × HoldsAt (λ x. key x ≡ s) xs i)
    found xs s (Ok i) range is = (range, λ d. ties (key (get_or xs i d)) s (is d))
    found xs s (Err i) range is = tt

    pub missed : (xs : List X) (s : K) (r : Result ℕ ℕ) → IsSearchInRange r (length xs) → IsBinarySearchResult
        (λ x. cmp (key x) s) xs r → IsKeyed cmp key xs
        → IfErr r (λ i. (i ≤ length xs) × IsPartitionPoint (λ x. cmp (key x) s ≡ Less) (λ x. cmp (key x) s ≡ Greater) xs
        i)
    missed xs s (Ok i) range is keyed = tt
    missed xs s (Err i) range is keyed = (range, is (searchable xs keyed s))

    -- nobody has a missed key
    pub missed_all : (xs : List X) (s : K) (i : ℕ) → IsPartitionPoint (λ x. cmp (key x) s ≡ Less)
        (λ x. cmp (key x) s ≡ Greater) xs i → LacksKey key xs s
    missed_all xs s i point z (k, lt, at) same = elim (cases_lt k i) [
      | inl below ↦ less_apart (key z) s (subst (λ (y : X). cmp (key y) s ≡ Less) at (point.0 k z (omega arith) below))
          same
      | inr above ↦ greater_apart (key z) s (subst (λ (y : X). cmp (key y) s ≡ Greater) at (point.1 k z above lt)) same
    ]

    pub has_at : (xs : List X) (s : K) (i : ℕ) → i < length xs → HoldsAt (λ x. key x ≡ s) xs i → HasKey key xs s
    has_at [] s i lt at = absurd (omega arith)
    has_at (x ∷ xs) s i lt at = (
      get_or (x ∷ xs) i x,
      (i, lt, get_or_default (x ∷ xs) i (get_or (x ∷ xs) i x) x lt),
      at
          x,
    )

    tied : (a b : K) → a ≡ b → cmp a b ≡ Equal
    tied a b same = subst (λ z. cmp a z ≡ Equal) same (tied_itself total a)

    -- a test of the keys
    holds_at : (xs : List X) (s : K) (k : ℕ) → k < length xs → HoldsAt (λ x. key x ≡ s) xs k → holds_key cmp key xs s
        ≡ true
    holds_at [] s k lt at = absurd (omega arith)
    holds_at (x ∷ xs) s zero lt at = ap (λ o. is_eq o || holds_key cmp key xs s) (tied (key x) s (at x))
    holds_at (x ∷ xs) s (suc k) lt at = rw (holds_at xs s k (omega arith) (λ d. at d)) (or_true (is_eq (cmp (key x) s)))

    pub holds_none : (xs : List X) (s : K) → LacksKey key xs s → holds_key cmp key xs s ≡ false
    holds_none [] s none = refl
    holds_none (x ∷ xs) s none =
        let here : is_eq (cmp (key x) s) ≡ false = not_equal (cmp (key x) s)
        (λ e. none x (zero, omega arith, refl) (ties (key x) s e)) in
        rw here (holds_none xs s (λ z (k, lt, at). none z (suc k, omega arith, at)))

    pub holds_has : (xs : List X) (y : X) → Contains xs y → holds_key cmp key xs (key y) ≡ true
    holds_has xs y (k, lt, at) = holds_at xs (key y) k lt (λ d. ap key (get_or_default xs k d y lt ∙ at))

    pub holds_lacks : (xs : List X) (s : K) → holds_key cmp key xs s ≡ false → LacksKey key xs s
    holds_lacks xs s is y there same = false≢true (sym is ∙ subst (λ k. holds_key cmp key xs k ≡ true) same
        (holds_has xs y there))

    pub has_is : (xs : List X) (s : K) (r : Result ℕ ℕ) → IfOk r (λ i. (i < length xs) × HoldsAt (λ x. key x ≡ s) xs i)
        → IfErr r (λ i. (i ≤ length xs) × IsPartitionPoint (λ x. cmp (key x) s ≡ Less) (λ x. cmp (key x) s ≡ Greater) xs
        i) → is_ok r ≡ holds_key cmp key xs s
    has_is xs s (Ok i) taken free = sym (holds_at xs s i taken.0 taken.1)
    has_is xs s (Err i) taken free = sym (holds_none xs s (missed_all xs s i free.1))
