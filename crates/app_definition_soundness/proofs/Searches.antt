-- Searches for what is only known to be there.
use Rattle.std.proofs.Common.{◌≡◌, ◌⊎◌, ℕ, zero, suc, ◌<◌, arith, inl, inr, subst, Option, None, Some}
use Rattle.std.proofs.Math.Logic.{∥∥₁_elim}
use Rattle.std.proofs.Props.{props}
use Rattle.std.proofs.lemmas.Bool.{cases_eq}
use Rattle.std.specs.Prelude.{IfSome}

pub no_prop : IsProp ⊥
no_prop x y = absurd x

-- a part of an option is a mere fact where the part of what is there is one
pub if_some_prop : {X : Type 0} (P : X → Type 0) → ((x : X) → IsProp (P x)) → (o : Option X) → IsProp (IfSome o P)
if_some_prop P each None = hlevel props
if_some_prop P each (Some x) = each x

-- what a test decides is there where it is only known to be
pub decided : {A : Type 0} → A ⊎ (A → ⊥) → ∥ A ∥₁ → A
decided (inl is) some = is
decided (inr none) some = absurd (∥∥₁_elim some no_prop none)

module _ (P : ℕ → Type 0) (test : (k : ℕ) → P k ⊎ (P k → ⊥)) where
  abbrev Below : ℕ → Type 0
  Below n = (k : ℕ) × (k < n) × P k

  last_not : (n : ℕ) → (P n → ⊥) → Below (suc n) → Below n
  last_not n not (k, lt, is) = elim (cases_eq k n) [
    | inl same ↦ absurd (not (subst P same is))
    | inr other ↦ (k, before k lt other, is)
  ]
    where
      before : (k : ℕ) → k < suc n → (k ≡ n → ⊥) → k < n
      before k lt other = omega (arith, lt, other)

  -- whether a number below a bound passes a test
  pub search_below : (n : ℕ) → Below n ⊎ (Below n → ⊥)
  search_below zero = inr (λ (k, lt, is). omega (arith, lt))
  search_below (suc n) = elim (test n) [
    | inl is ↦ inl (n, omega arith, is)
    | inr not ↦ elim (search_below n) [
      | inl (k, lt, is) ↦ inl (k, omega (arith, lt), is)
      | inr none ↦ inr (λ below. none (last_not n not below))
    ]
  ]
