-- Lists in which no item stands twice.
use Rattle.std.proofs.Common.{◌≡◌, zero, suc, List, [], ◌∷◌, ◌++◌, get_or, sym, ap, subst, ◌∙◌}
use Rattle.std.proofs.Common.{inl, inr, arith, Option, None, Some, refl}
use Rattle.std.specs.Prelude.{Bool, true, false, map}
use Rattle.std.specs.Bool.{Decides}
use Rattle.std.specs.Cmp.{IsEquivalence}
use Rattle.std.specs.HashSet as bag
use Rattle.std.specs.HashSet.{HashSet}
use Rattle.std.proofs.lemmas.Map.Made.{is_member-Decides}
use Rattle.std.specs.List.{AllPairs, Contains}
use Rattle.std.proofs.lemmas.List.{get_or-map, length-map}
use Rattle.std.proofs.lemmas.List.Elements.{All-map, Contains-append_cases, Contains-get_or}
use Rattle.std.proofs.lemmas.List.Kept.{AllPairs-cons}

pub not_some : {X : Type 0} (o : Option X) → ((x : X) → o ≡ Some x → ⊥) → o ≡ None
not_some None none = refl
not_some (Some x) none = absurd (none x refl)

module _ {X : Type 0} where
  abbrev pub Differ : List X → Type 0
  Differ xs = AllPairs (λ x y. x ≡ y → ⊥) xs

  pub differ_later : (x : X) (xs : List X) → Differ (x ∷ xs) → Differ xs
  differ_later x xs differ i j d below lt = differ (suc i) (suc j) d (omega arith) (omega arith)

  pub differ_first : (x : X) (xs : List X) → Differ (x ∷ xs) → (y : X) → Contains xs y → x ≡ y → ⊥
  differ_first x xs differ y (k, lt, at) same = differ zero (suc k) y (omega arith) (omega arith) (same ∙ sym at)

  pub differ_append : (xs ys : List X) → Differ xs → Differ ys → ((x : X) → Contains xs x → Contains ys x → ⊥)
      → Differ (xs ++ ys)
  differ_append [] ys first second apart = second
  differ_append (x ∷ xs) ys first second apart =
      AllPairs-cons (λ x y. x ≡ y → ⊥) x (xs ++ ys)
      (λ k d lt same. elim (Contains-append_cases xs ys (get_or (xs ++ ys) k d) (Contains-get_or (xs ++ ys) k d lt)) [
        | inl in_xs ↦ differ_first x xs first (get_or (xs ++ ys) k d) in_xs same
        | inr in_ys ↦ apart x (zero, omega arith, refl) (subst (Contains ys) (sym same) in_ys)
      ])
      (differ_append xs ys (differ_later x xs first) second (λ z (k, lt, at). apart z (suc k, omega arith, at)))

  pub differ_map : {Y : Type 0} (f : X → Y) → ((x y : X) → f x ≡ f y → x ≡ y) → (xs : List X) → Differ xs
      → AllPairs (λ (x y : Y). x ≡ y → ⊥) (map f xs)
  differ_map f one [] differ = λ i j d below lt. absurd (omega (arith, below, lt))
  differ_map f one (x ∷ xs) differ =
      AllPairs-cons (λ x y. x ≡ y → ⊥) (f x) (map f xs)
      (All-map (λ y. f x ≡ y → ⊥) f xs
      (λ k d lt same. differ zero (suc k) d (omega arith) (omega arith) (one x (get_or xs k d) same)))
      (differ_map f one xs (differ_later x xs differ))

  -- what a mapped list contains
  pub contains_map : {Y : Type 0} (f : X → Y) (xs : List X) (y : Y) → Contains (map f xs) y
      → (x : X) × Contains xs x × (f x ≡ y)
  contains_map f [] y (k, lt, at) = absurd (omega arith)
  contains_map f (x ∷ xs) y (zero, lt, at) = (x, (zero, omega arith, refl), at)
  contains_map f (x ∷ xs) y (suc k, lt, at) =
      let (z, (j, below, there), same) = contains_map f xs y (k, omega arith, at) in
      (z, (suc j, omega arith, there), same)

  pub map_contains : {Y : Type 0} (f : X → Y) (xs : List X) (x : X) → Contains xs x → Contains (map f xs) (f x)
  map_contains f [] x (k, lt, at) = absurd (omega arith)
  map_contains f (y ∷ ys) x (zero, lt, at) = (zero, omega arith, ap f at)
  map_contains f (y ∷ ys) x (suc k, lt, at) =
      let (j, below, there) = map_contains f ys x (k, omega arith, at) in (suc j, omega arith, there)

  -- pairs of a mapped list
  pub pairs_map : {Y : Type 0} (R : Y → Y → Type 0) (f : X → Y) (xs : List X) → AllPairs (λ x y. R (f x) (f y)) xs
      → AllPairs R (map f xs)
  pairs_map R f [] pairs = λ i j d below lt. absurd (omega (arith, below, lt))
  pairs_map R f (x ∷ xs) pairs =
      AllPairs-cons R (f x) (map f xs)
      (All-map (R (f x)) f xs (λ k d lt. pairs zero (suc k) d (omega arith) (omega arith)))
      (pairs_map R f xs (λ i j d below lt. pairs (suc i) (suc j) d (omega arith) (omega arith)))

  pub map_pairs : {Y : Type 0} (R : Y → Y → Type 0) (f : X → Y) (xs : List X) → AllPairs R (map f xs)
      → AllPairs (λ x y. R (f x) (f y)) xs
  map_pairs R f xs pairs i j d below lt =
      let at_i = get_or-map f xs i d (f d) (omega arith) in
      let at_j = get_or-map f xs j d (f d) lt in
      let here = pairs i j (f d) below (omega (arith, length-map xs f)) in
      subst (λ y. R (f (get_or xs i d)) y) at_j (subst (λ y. R y (get_or (map f xs) j (f d))) at_i here)

-- a set that was made of a list, by a test that decides whether two are the same, has what the list contains
pub set_has : {K S : Type 0} {eq : K → K → Bool} → ((a b : K) → Decides (eq a b) (a ≡ b)) → (xs : List K)
    → (set : HashSet K S) → bag.IsFromIterResult eq xs set → (key : K) → Decides (bag.contains eq set key)
    (Contains xs key)
set_has same xs set made key = rw (made.0 key) (is_member-Decides same xs key)

-- a test that decides whether two are the same
pub equivalence : {K : Type 0} {eq : K → K → Bool} → ((a b : K) → Decides (eq a b) (a ≡ b)) → IsEquivalence eq
equivalence {K} {eq} same = record {
  refl = λ x. (same x x).1 refl;
  symm = λ x y. both (eq x y) (eq y x) (λ t. (same y x).1 (sym ((same x y).0 t))) (λ t. (same x y).1 (sym
      ((same y x).0 t)));
  congr = λ x y z t. subst (λ w. eq x z ≡ eq w z) ((same x y).0 t) refl;
}
  where
    both : (a b : Bool) → (a ≡ true → b ≡ true) → (b ≡ true → a ≡ true) → a ≡ b
    both true b to from = sym (to refl)
    both false true to from = from refl
    both false false to from = refl
