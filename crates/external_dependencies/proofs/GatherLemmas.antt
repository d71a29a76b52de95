-- What is gathered for a repair, one item after another.
use Rattle.std.proofs.Common.{◌≡◌, ◌↔◌, ◌⊎◌, ℕ, List, [], ◌∷◌, ◌++◌, sym, ap, subst, ◌∙◌, inl, inr}
use Rattle.std.specs.List.{Contains}
use Rattle.std.proofs.lemmas.List.Elements.{Contains-append_cases, Contains-append_left, Contains-append_right, Contains-push, Contains-push_cases}
use Rattle.external_dependencies.specs.declared.pairs.Pair.{Pair}
use Rattle.external_dependencies.specs.declared.rows.PlacedRow.{PlacedRow}
use Rattle.external_dependencies.specs.Reached.{HasSerialOf}

-- those that pass, so far
module _ {X : Type 0} (Passes : X → Type 0) (xs found : List X)
    (so_far : (x : X) → Contains found x ↔ (Contains xs x × Passes x)) (y : X) where
  pub passed : Passes y → (x : X) → Contains (found ++ y ∷ []) x ↔ (Contains (xs ++ y ∷ []) x × Passes x)
  passed is x = (forward, backward)
    where
      forward : Contains (found ++ y ∷ []) x → Contains (xs ++ y ∷ []) x × Passes x
      forward there = elim (Contains-push_cases found y x there) [
        | inl old ↦ let both = (so_far x).0 old in (Contains-append_left xs (y ∷ []) x both.0, both.1)
        | inr same ↦ (subst (Contains (xs ++ y ∷ [])) same (Contains-push xs y), subst Passes same is)
      ]

      backward : Contains (xs ++ y ∷ []) x × Passes x → Contains (found ++ y ∷ []) x
      backward (there, passes) = elim (Contains-push_cases xs y x there) [
        | inl old ↦ Contains-append_left found (y ∷ []) x ((so_far x).1 (old, passes))
        | inr same ↦ subst (Contains (found ++ y ∷ [])) same (Contains-push found y)
      ]

  pub passed_over : (Passes y → ⊥) → (x : X) → Contains found x ↔ (Contains (xs ++ y ∷ []) x × Passes x)
  passed_over never x = (forward, backward)
    where
      forward : Contains found x → Contains (xs ++ y ∷ []) x × Passes x
      forward old = let both = (so_far x).0 old in (Contains-append_left xs (y ∷ []) x both.0, both.1)

      backward : Contains (xs ++ y ∷ []) x × Passes x → Contains found x
      backward (there, passes) = elim (Contains-push_cases xs y x there) [
        | inl old ↦ (so_far x).1 (old, passes)
        | inr same ↦ absurd (never (subst Passes (sym same) passes))
      ]

-- the serials so far
module _ (IsMore : ℕ → Type 0) (rows : List PlacedRow) (serials : List ℕ)
    (so_far : (n : ℕ) → Contains serials n ↔ (HasSerialOf rows n ⊎ IsMore n)) (placed : PlacedRow) where
  pub serials_more : (n : ℕ) → Contains (serials ++ placed.row.serial ∷ []) n
      ↔ (HasSerialOf (rows ++ placed ∷ []) n ⊎ IsMore n)
  serials_more n = (forward, backward)
    where
      wider : HasSerialOf rows n ⊎ IsMore n → HasSerialOf (rows ++ placed ∷ []) n ⊎ IsMore n
      wider (inl (q, there, same)) = inl (q, Contains-append_left rows (placed ∷ []) q there, same)
      wider (inr there) = inr there

      forward : Contains (serials ++ placed.row.serial ∷ []) n
          → HasSerialOf (rows ++ placed ∷ []) n ⊎ IsMore n
      forward there = elim (Contains-push_cases serials placed.row.serial n there) [
        | inl old ↦ wider ((so_far n).0 old)
        | inr same ↦ inl (placed, Contains-push rows placed, same)
      ]

      backward : HasSerialOf (rows ++ placed ∷ []) n ⊎ IsMore n → Contains (serials ++ placed.row.serial ∷ []) n
      backward (inr there) = Contains-append_left serials (placed.row.serial ∷ []) n ((so_far n).1 (inr there))
      backward (inl (q, there, same)) = elim (Contains-push_cases rows placed q there) [
        | inl old ↦ Contains-append_left serials (placed.row.serial ∷ []) n ((so_far n).1 (inl (q, old, same)))
        | inr is ↦ subst (Contains (serials ++ placed.row.serial ∷ []))
            (ap (λ (p : PlacedRow). p.row.serial) is ∙ same) (Contains-push serials placed.row.serial)
      ]

-- the pairs of the successors so far
module _ (pairs had : List Pair) (done : List ℕ)
    (so_far : (pair : Pair) → Contains had pair ↔ (Contains pairs pair × Contains done pair.successor)) (serial : ℕ)
    (own : List Pair)
    (are_own : (pair : Pair) → Contains own pair ↔ (Contains pairs pair × (pair.successor ≡ serial))) where
  pub had_more : (pair : Pair) → Contains (had ++ own) pair
      ↔ (Contains pairs pair × Contains (done ++ serial ∷ []) pair.successor)
  had_more pair = (forward, backward)
    where
      forward : Contains (had ++ own) pair → Contains pairs pair × Contains (done ++ serial ∷ []) pair.successor
      forward there = elim (Contains-append_cases had own pair there) [
        | inl old ↦ let both = (so_far pair).0 old in
            (both.0, Contains-append_left done (serial ∷ []) pair.successor both.1)
        | inr new ↦ let both = (are_own pair).0 new in
            (both.0, subst (Contains (done ++ serial ∷ [])) (sym both.1) (Contains-push done serial))
      ]

      backward : Contains pairs pair × Contains (done ++ serial ∷ []) pair.successor → Contains (had ++ own) pair
      backward (there, among) = elim (Contains-push_cases done serial pair.successor among) [
        | inl old ↦ Contains-append_left had own pair ((so_far pair).1 (there, old))
        | inr same ↦ Contains-append_right had own pair ((are_own pair).1 (there, sym same))
      ]
