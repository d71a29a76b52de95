-- What is added for each of some, one after another.
use Rattle.std.proofs.Common.{◌≡◌, ◌↔◌, List, [], ◌∷◌, ◌++◌, subst, sym, inl, inr}
use Rattle.std.specs.List.{Contains}
use Rattle.std.proofs.lemmas.List.Elements.{Contains-append_left, Contains-push, Contains-push_cases}
use Rattle.plan_store_pairs.specs.Gathering.{AddsEach, AddsIf}
use Rattle.plan_store_pairs.proofs.ListLemmas.{none}

module _ {Y : Type 0} where
  -- nothing is so
  pub adds_nothing : (Is : Y → Type 0) (old : List Y) → ((y : Y) → Is y → ⊥) → AddsIf Is old old
  adds_nothing Is old never y =
      ((λ there. inl there), λ either. elim either [ inl there ↦ there | inr is ↦ absurd (never y is) ])

  -- one is so, and no other
  pub adds_one : (Is : Y → Type 0) (old : List Y) (x : Y) → Is x → ((y : Y) → Is y → x ≡ y) → AddsIf Is old (old ++ x ∷ [])
  adds_one Is old x is one y = (
    (λ there. elim (Contains-push_cases old x y there) [
      | inl before ↦ inl before
      | inr same ↦ inr (subst Is same is)
    ]),
    λ either. elim either [
      | inl before ↦ Contains-append_left old (x ∷ []) y before
      | inr so ↦ subst (Contains (old ++ x ∷ [])) (one y so) (Contains-push old x)
    ],
  )

  -- the same is so in other words
  pub adds_same : (Is So : Y → Type 0) (old new : List Y) → ((y : Y) → Is y ↔ So y) → AddsIf Is old new
      → AddsIf So old new
  adds_same Is So old new same adds y = (
    (λ there. elim ((adds y).0 there) [ inl before ↦ inl before | inr is ↦ inr ((same y).0 is) ]),
    λ either. (adds y).1 (elim either [ inl before ↦ inl before | inr so ↦ inr ((same y).1 so) ]),
  )

  -- what comes to nothing is just what is so
  pub adds_all : (Is : Y → Type 0) (new : List Y) → AddsIf Is [] new → (y : Y) → Contains new y ↔ Is y
  adds_all Is new adds y = (
    (λ there. elim ((adds y).0 there) [ inl before ↦ absurd (none y before) | inr is ↦ is ]),
    λ is. (adds y).1 (inr is),
  )

module _ {X Y : Type 0} (Is : X → Y → Type 0) where
  pub each_none : (old : List Y) → AddsEach Is [] old old
  each_none old = adds_nothing (λ y. (x : X) × Contains [] x × Is x y) old (λ y (x, there, is). none x there)

  pub each_more : (xs : List X) (x : X) (old so_far new : List Y) → AddsEach Is xs old so_far
      → AddsIf (Is x) so_far new → AddsEach Is (xs ++ x ∷ []) old new
  each_more xs x old so_far new each one y = (
    (λ there. elim ((one y).0 there) [
      | inl before ↦ elim ((each y).0 before) [
        | inl at_first ↦ inl at_first
        | inr (z, in_xs, is) ↦ inr (z, Contains-append_left xs (x ∷ []) z in_xs, is)
      ]
      | inr is ↦ inr (x, Contains-push xs x, is)
    ]),
    λ either. (one y).1 (elim either [
      | inl at_first ↦ inl ((each y).1 (inl at_first))
      | inr (z, there, is) ↦ elim (Contains-push_cases xs x z there) [
        | inl in_xs ↦ inl ((each y).1 (inr (z, in_xs, is)))
        | inr same ↦ inr (subst (λ w. Is w y) (sym same) is)
      ]
    ]),
  )
