-- Facts on each two elements of a list.
use Rattle.std.proofs.Common.{◌≡◌, ℕ, zero, suc, ◌≢◌, ◌<◌, ◌++◌, List, [], ◌∷◌, length, get_or, map, take, refl, sym}
use Rattle.std.proofs.Common.{subst, ◌∙◌, inl, inr, arith}
use Rattle.std.specs.List.{All, AllPairs, Contains}
use Rattle.std.proofs.lemmas.List.{get_or-take, length-take-le}
use Rattle.std.proofs.lemmas.List.Elements.{All-append, All-contains, All-map, Contains-append_left, Contains-get_or}
use Rattle.std.proofs.lemmas.List.Elements.{Contains-push}
use Rattle.std.proofs.lemmas.List.Kept.{AllPairs-cons}
use Rattle.plan_store_pairs.proofs.ListLemmas.{first_or_later, none}

module _ {X : Type 0} (R : X → X → Type 0) where
  pub append_pairs : (xs ys : List X) → AllPairs R xs → AllPairs R ys
      → ((x y : X) → Contains xs x → Contains ys y → R x y) → AllPairs R (xs ++ ys)
  append_pairs [] ys left right across = right
  append_pairs (x ∷ xs) ys left right across =
      AllPairs-cons R x (xs ++ ys)
      (All-append (R x) xs ys (λ k d lt. left zero (suc k) d (omega arith) (omega (arith, lt)))
      (λ k d lt. across x (get_or ys k d) (zero, omega arith, refl) (Contains-get_or ys k d lt)))
      (append_pairs xs ys (λ i j d lt within. left (suc i) (suc j) d (omega (arith, lt)) (omega (arith, within))) right
      (λ a b (k, lt, at) at_b. across a b (suc k, omega (arith, lt), at) at_b))

  pub map_pairs : {Y : Type 0} (f : Y → X) (ys : List Y) → AllPairs (λ a b. R (f a) (f b)) ys
      → AllPairs R (map f ys)
  map_pairs f [] pairs = λ i j d lt within. absurd (omega (arith, lt, within))
  map_pairs f (y ∷ ys) pairs =
      AllPairs-cons R (f y) (map f ys)
      (All-map (R (f y)) f ys (λ k d lt. pairs zero (suc k) d (omega arith) (omega (arith, lt))))
      (map_pairs f ys (λ i j d lt within. pairs (suc i) (suc j) d (omega (arith, lt)) (omega (arith, within))))

  first_all : (x : X) (xs : List X) → AllPairs R (x ∷ xs) → All (R x) xs
  first_all x xs pairs k d lt = pairs zero (suc k) d (omega arith) (omega (arith, lt))

  later_pairs : (x : X) (xs : List X) → AllPairs R (x ∷ xs) → AllPairs R xs
  later_pairs x xs pairs i j d lt within = pairs (suc i) (suc j) d (omega (arith, lt)) (omega (arith, within))

  -- of a list with one more, the front, and the front with the last
  pub front_pairs : (xs : List X) (y : X) → AllPairs R (xs ++ y ∷ []) → AllPairs R xs
  front_pairs [] y pairs = λ i j d lt within. absurd (omega (arith, lt, within))
  front_pairs (x ∷ xs) y pairs =
      AllPairs-cons R x xs
      (λ k d lt. All-contains (R x) (xs ++ y ∷ []) (get_or xs k d) (first_all x (xs ++ y ∷ []) pairs)
      (Contains-append_left xs (y ∷ []) (get_or xs k d) (Contains-get_or xs k d lt)))
      (front_pairs xs y (later_pairs x (xs ++ y ∷ []) pairs))

  pub last_pairs : (xs : List X) (y : X) → AllPairs R (xs ++ y ∷ []) → (x : X) → Contains xs x → R x y
  last_pairs [] y pairs x there = absurd (none x there)
  last_pairs (z ∷ xs) y pairs x there = elim (first_or_later z x xs there) [
    | inl same ↦ subst (λ w. R w y) same
        (All-contains (R z) (xs ++ y ∷ []) y (first_all z (xs ++ y ∷ []) pairs) (Contains-push xs y))
    | inr later ↦ last_pairs xs y (later_pairs z (xs ++ y ∷ []) pairs) x later
  ]

-- where no two are the same, an element doesn't stand before itself
pub front_lacks : {X : Type 0} (xs : List X) → AllPairs (λ (a b : X). a ≢ b) xs → (i : ℕ) (x : X) → i < length xs
    → get_or xs i x ≡ x → Contains (take i xs) x → ⊥
front_lacks xs apart i x lt at (k, lt_k, at_k) =
    let short : k < i = omega (arith, lt_k, length-take-le i xs (omega (arith, lt))) in
    apart k i x short lt (sym (get_or-take i xs k x short) ∙ at_k ∙ sym at)
