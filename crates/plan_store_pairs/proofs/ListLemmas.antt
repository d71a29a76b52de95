-- What lists contain.
use Rattle.std.proofs.Common.{zero, suc, ◌≡◌, ◌⊎◌, Bool, true, List, [], ◌∷◌, filter, refl, inl, inr, arith}
use Rattle.std.specs.List.{Contains}
use Rattle.external_dependencies.proofs.PairLemmas.{Contains-filter}

module _ {X : Type 0} where
  pub here : (x : X) (xs : List X) → Contains (x ∷ xs) x
  here x xs = (zero, omega arith, refl)

  pub further : (x y : X) (xs : List X) → Contains xs y → Contains (x ∷ xs) y
  further x y xs (k, lt, at) = (suc k, omega arith, at)

  pub none : (x : X) → Contains [] x → ⊥
  none x (k, lt, at) = omega arith

  pub first_or_later : (x z : X) (xs : List X) → Contains (x ∷ xs) z → (x ≡ z) ⊎ Contains xs z
  first_or_later x z xs (zero, lt, at) = inl at
  first_or_later x z xs (suc k, lt, at) = inr (k, omega arith, at)

  pub only_one : (x z : X) → Contains (x ∷ []) z → x ≡ z
  only_one x z there = elim (first_or_later x z [] there) [ inl is ↦ is | inr later ↦ absurd (none z later) ]

  pub filter_has : (p : X → Bool) (xs : List X) (x : X) → Contains (filter p xs) x → Contains xs x × (p x ≡ true)
  filter_has p xs x there = (Contains-filter p xs x).0 there

  pub filter_keeps : (p : X → Bool) (xs : List X) (x : X) → Contains xs x → p x ≡ true → Contains (filter p xs) x
  filter_keeps p xs x there is = (Contains-filter p xs x).1 (there, is)
