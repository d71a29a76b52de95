-- Look-ups by number.
use Rattle.std.proofs.Common.{◌≡◌, ◌≢◌, ℕ, true, false, List, [], ◌∷◌, refl, sym, ap, subst, inl, inr}
use Rattle.std.proofs.Common.{arith, Some, None}
use Rattle.std.specs.List.{Contains}
use Rattle.std.proofs.lemmas.Bool.{eqb-true, eqb-false, ne_eqb}
use Rattle.std.specs.Prelude.{nat_eq, cond}
use Rattle.plan_store_lists.specs.Rows.{OneEach, look_up}
use Rattle.plan_store_lists.proofs.KeyLemmas.{contains_cases, contains_first, contains_later}

module _ {X : Type 0} (number_of : X → ℕ) where
  -- what is found is in the list, and has the number
  pub look_some : (xs : List X) (n : ℕ) (x : X) → look_up number_of xs n ≡ Some x → Contains xs x × (number_of x ≡ n)
  look_some [] n x is = cc
  look_some (y ∷ ys) n x is = elim (nat_eq (number_of y) n) as (λ b. nat_eq (number_of y) n ≡ b
      → cond b (Some y) (look_up number_of ys n) ≡ Some x → Contains (y ∷ ys) x × (number_of x ≡ n)) [
        | true ↦ λ t here. let same : y ≡ x = cc in (
          subst (Contains (y ∷ ys)) same (contains_first y ys),
          subst (λ (z : X). number_of z ≡ n) same
              (eqb-true _ _ t),
        )
        | false ↦ λ _ later. let rest = look_some ys n x later in (contains_later y x ys rest.0, rest.1)
      ] refl is

  pub look_lacks : (xs : List X) (n : ℕ) → ((x : X) → Contains xs x → number_of x ≢ n) → look_up number_of xs n ≡ None
  look_lacks [] n lacks = refl
  look_lacks (y ∷ ys) n lacks =
      let here : nat_eq (number_of y) n ≡ false = ne_eqb _ _ (lacks y (contains_first y ys)) in
      rw here (look_lacks ys n (λ z there. lacks z (contains_later y z ys there)))

  pub look_none : (xs : List X) (n : ℕ) → look_up number_of xs n ≡ None → (x : X) → Contains xs x → number_of x ≢ n
  look_none [] n is x (k, lt, at) same = absurd (omega arith)
  look_none (y ∷ ys) n is x there same = elim (nat_eq (number_of y) n) as (λ b. nat_eq (number_of y) n ≡ b
      → cond b (Some y) (look_up number_of ys n) ≡ None → ⊥) [
        | true ↦ λ _ here. cc
        | false ↦ λ t later. elim (contains_cases y x ys there) [
          | inl at ↦ eqb-false _ _ t (subst (λ (z : X). number_of z ≡ n) (sym at) same)
          | inr rest ↦ look_none ys n later x rest same
        ]
      ] refl is

  pub look_has : (xs : List X) → OneEach number_of xs → (x : X) → Contains xs x → look_up number_of xs (number_of x)
      ≡ Some x
  look_has xs one x there = elim (look_up number_of xs (number_of x)) as (λ o. look_up number_of xs (number_of x) ≡ o
      → o ≡ Some x) [
        | None ↦ λ e. absurd (look_none xs (number_of x) e x there refl)
        | Some y ↦ λ e. let is = look_some xs (number_of x) y e in ap Some (one y x is.0 there is.1)
      ] refl

  pub look_at : (xs : List X) → OneEach number_of xs → (x : X) (n : ℕ) → Contains xs x → number_of x ≡ n
      → look_up number_of xs n ≡ Some x
  look_at xs one x n there same = subst (λ m. look_up number_of xs m ≡ Some x) same (look_has xs one x there)
