-- Pairs of what is live and no longer open: the slots that predecessors take, and rings.
use Rattle.std.proofs.Common.{◌≡◌, zero, suc, List, [], ◌∷◌}
use Rattle.std.proofs.Common.{get_or, refl, sym, ap, subst, ◌∙◌, arith, Option, None, Some}
use Rattle.std.specs.List.{AllPairs, Contains, cons_option, filter_map}
use Rattle.std.proofs.lemmas.List.Elements.{Contains-get_or}
use Rattle.std.proofs.lemmas.List.Kept.{AllPairs-cons}
use Rattle.plan_store_soundness.proofs.DistinctLemmas.{Differ, differ_first, differ_later}

-- what a list keeps of another
module _ {X Y : Type 0} (f : X → Option Y) where
  abbrev OwnValues : List X → Type 0
  OwnValues xs = AllPairs (λ x x'. (y : Y) → f x ≡ Some y → f x' ≡ Some y → ⊥) xs

  first_own : (x : X) (xs : List X) → OwnValues (x ∷ xs) → (x' : X) → Contains xs x' → (y : Y) → f x ≡ Some y
      → f x' ≡ Some y → ⊥
  first_own x xs own x' (k, lt, at) y is is' =
      own zero (suc k) x' (omega arith) (omega arith) y is (ap f at ∙ is')

  abbrev IsKept : List X → Y → Type 0
  IsKept xs y = (x : X) × Contains xs x × (f x ≡ Some y)

  further : (x : X) (xs : List X) (y : Y) → IsKept xs y → IsKept (x ∷ xs) y
  further x xs y (x', (k, lt, here), same) = (x', (suc k, omega arith, here), same)

  first_or_later : (x : X) (xs : List X) (y z : Y) → f x ≡ Some z
      → ((w : Y) → Contains (filter_map f xs) w → IsKept xs w)
      → Contains (z ∷ filter_map f xs) y → IsKept (x ∷ xs) y
  first_or_later x xs y z is rest (zero, lt, at) = (x, (zero, omega arith, refl), is ∙ ap (λ w. Some w) at)
  first_or_later x xs y z is rest (suc k, lt, at) = further x xs y (rest y (k, omega arith, at))

  kept_from : (xs : List X) (y : Y) → Contains (filter_map f xs) y → IsKept xs y
  kept_from [] y (k, lt, at) = absurd (omega (arith, lt))
  kept_from (x ∷ xs) y there =
      elim (f x) as (λ o. f x ≡ o → Contains (cons_option o (filter_map f xs)) y → IsKept (x ∷ xs) y) [
        | None ↦ λ is at. further x xs y (kept_from xs y at)
        | Some z ↦ λ is at. first_or_later x xs y z is (kept_from xs) at
      ] refl there

  kept_in : (xs : List X) (x : X) (y : Y) → Contains xs x → f x ≡ Some y → Contains (filter_map f xs) y
  kept_in [] x y (k, lt, at) is = absurd (omega (arith, lt))
  kept_in (x' ∷ xs) x y (zero, lt, at) is =
      subst (λ o. Contains (cons_option o (filter_map f xs)) y) (sym is ∙ ap f (sym at)) (zero, omega arith, refl)
  kept_in (x' ∷ xs) x y (suc k, lt, at) is =
      elim (f x') as (λ o. Contains (cons_option o (filter_map f xs)) y) [
        | None ↦ kept_in xs x y (k, omega arith, at) is
        | Some z ↦ let (j, below, here) = kept_in xs x y (k, omega arith, at) is in (suc j, omega arith, here)
      ]

  pub differ_from_own : (xs : List X) → OwnValues xs → Differ (filter_map f xs)
  differ_from_own [] own = λ i j d below lt. absurd (omega (arith, below, lt))
  differ_from_own (x ∷ xs) own =
      let rest = differ_from_own xs
      (λ i j d below lt. own (suc i) (suc j) d (omega arith) (omega arith)) in
      elim (f x) as (λ o. f x ≡ o → Differ (cons_option o (filter_map f xs))) [
        | None ↦ λ is. rest
        | Some y ↦ λ is. AllPairs-cons (λ a b. a ≡ b → ⊥) y (filter_map f xs)
            (λ k d lt same.
            let z : Y = get_or (filter_map f xs) k d in
            let (x', there, is') = kept_from xs z (Contains-get_or (filter_map f xs) k d lt) in
            first_own x xs own x' there y is (is' ∙ ap (λ w. Some w) (sym same)))
            rest
      ] refl

  pub own_from_differ : (xs : List X) → Differ (filter_map f xs) → OwnValues xs
  own_from_differ [] differ = λ i j d below lt. absurd (omega (arith, below, lt))
  own_from_differ (x ∷ xs) differ =
      elim (f x) as (λ o. f x ≡ o → Differ (cons_option o (filter_map f xs)) → OwnValues (x ∷ xs)) [
        | None ↦ λ is apart. AllPairs-cons (λ x x'. (y : Y) → f x ≡ Some y → f x' ≡ Some y → ⊥) x xs
            (λ k d lt y has has'. let wrong : None ≡ Some y = sym is ∙ has in cc)
            (own_from_differ xs apart)
        | Some z ↦ λ is apart. AllPairs-cons (λ x x'. (y : Y) → f x ≡ Some y → f x' ≡ Some y → ⊥) x xs
            (λ k d lt y has has'.
            let whole : Some z ≡ Some y = sym is ∙ has in
            let same : z ≡ y = cc in
            differ_first z (filter_map f xs) apart y
            (kept_in xs (get_or xs k d) y (Contains-get_or xs k d lt) has') same)
            (own_from_differ xs (differ_later z (filter_map f xs) apart))
      ] refl differ
