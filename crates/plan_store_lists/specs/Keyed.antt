-- Lists in the order of a key.
use Rattle.std.specs.Prelude.{◌≡◌, ◌≢◌, Bool, List, Contains}
use Rattle.std.specs.List.{AllPairs, list_any}
use Rattle.std.specs.Ordering.{is_eq}
use Rattle.std.specs.declared.cmp.Ordering.{Ordering}
use Rattle.std.specs.declared.cmp.Ordering.TheVariants.{Less}

-- in rising order of keys, each key once
abbrev pub IsKeyed : {X K : Type 0} → (K → K → Ordering) → (X → K) → List X → Type 0
IsKeyed cmp key xs = AllPairs (λ x y. cmp (key x) (key y) ≡ Less) xs

-- no key appears twice
abbrev pub AreApart : {X K : Type 0} → (X → K) → List X → Type 0
AreApart key xs = AllPairs (λ x y. key x ≢ key y) xs

-- some item has the key
abbrev pub HasKey : {X K : Type 0} → (X → K) → List X → K → Type 0
HasKey {X} key xs k = (x : X) × Contains xs x × (key x ≡ k)

-- no item has the key
abbrev pub LacksKey : {X K : Type 0} → (X → K) → List X → K → Type 0
LacksKey {X} key xs k = (x : X) → Contains xs x → key x ≢ k

-- whether some item has the key
abbrev pub holds_key : {X K : Type 0} → (K → K → Ordering) → (X → K) → List X → K → Bool
holds_key cmp key xs k = list_any (λ x. is_eq (cmp (key x) k)) xs
