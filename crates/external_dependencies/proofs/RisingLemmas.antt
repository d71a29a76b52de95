-- A list in rising order is told by its elements.
use Rattle.std.proofs.Common.{zero, suc, ◌≡◌, ◌⊎◌, List, [], ◌∷◌, refl, sym, ap₂, subst, ◌∙◌, inl, inr, arith, Ordering}
use Rattle.std.specs.declared.cmp.Ordering.TheVariants.{Less, Equal}
use Rattle.std.specs.List.{Contains}
use Rattle.std.specs.Cmp.{IsTotalOrder}
use Rattle.std.proofs.lemmas.Cmp.{tied_itself}
use Rattle.external_dependencies.specs.Rising.{IsRising, RisingIsUnique}
use Rattle.external_dependencies.proofs.OrderLemmas.{less_not_equal}

module _ {X : Type 0} (cmp : X → X → Ordering) (total : IsTotalOrder cmp) where
  not_both : (x y : X) → cmp x y ≡ Less → cmp y x ≡ Less → ⊥
  not_both x y below above = less_not_equal (sym (total.trans x y x below above) ∙ tied_itself total x)

  later : (x : X) (xs : List X) (z : X) → IsRising cmp (x ∷ xs) → Contains xs z → cmp x z ≡ Less
  later x xs z rising (k, lt, is) = subst (λ w. cmp x w ≡ Less) is (rising zero (suc k) z (omega arith) (omega arith))

  rest_rising : (x : X) (xs : List X) → IsRising cmp (x ∷ xs) → IsRising cmp xs
  rest_rising x xs rising i j d lt in_range = rising (suc i) (suc j) d (omega arith) (omega arith)

  first_or_later : (x : X) (xs : List X) (z : X) → Contains (x ∷ xs) z → (x ≡ z) ⊎ Contains xs z
  first_or_later x xs z (zero, lt, is) = inl is
  first_or_later x xs z (suc k, lt, is) = inr (k, omega arith, is)

  further : (x : X) (xs : List X) (z : X) → Contains xs z → Contains (x ∷ xs) z
  further x xs z (k, lt, is) = (suc k, omega arith, is)

  -- what the first list has after its first element, the second has after its own, where the first elements are one
  rest_has : (x y : X) (xs ys : List X) → IsRising cmp (x ∷ xs) → x ≡ y
      → ((z : X) → Contains (x ∷ xs) z → Contains (y ∷ ys) z) → (z : X) → Contains xs z → Contains ys z
  rest_has x y xs ys rising same has z there = elim (first_or_later y ys z (has z (further x xs z there))) [
    | inl is ↦ absurd (less_not_equal (sym (later x xs z rising there)
        ∙ subst (λ w. cmp x w ≡ Equal) (same ∙ is) (tied_itself total x)))
    | inr found ↦ found
  ]

  pub rising_unique : RisingIsUnique cmp
  rising_unique [] [] a b same = refl
  rising_unique [] (y ∷ ys) a b same = let (k, lt, is) = (same y).1 (zero, omega arith, refl) in
      absurd (omega (arith, lt))
  rising_unique (x ∷ xs) [] a b same = let (k, lt, is) = (same x).0 (zero, omega arith, refl) in
      absurd (omega (arith, lt))
  rising_unique (x ∷ xs) (y ∷ ys) a b same =
      ap₂ (λ h t. h ∷ t) first
      (rising_unique xs ys (rest_rising x xs a) (rest_rising y ys b) (λ z. (
        rest_has x y xs ys a first (λ w. (same w).0) z,
        rest_has y x ys xs b (sym first) (λ w. (same w).1) z,
      )))
    where
      first : x ≡ y
      first = elim (first_or_later y ys x ((same x).0 (zero, omega arith, refl))) [
        | inl is ↦ sym is
        | inr there ↦ elim (first_or_later x xs y ((same y).1 (zero, omega arith, refl))) [
          | inl is ↦ is
          | inr back ↦ absurd (not_both x y (later x xs y a back) (later y ys x b there))
        ]
      ]
