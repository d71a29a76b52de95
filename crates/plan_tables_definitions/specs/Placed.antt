-- Entries at places, and their rows.
use Rattle.std.specs.Prelude.{◌≡◌, ℕ, ◌+◌, ◌<◌, List, Some, slice_get, IsSome}
use Rattle.std.specs.FinMap as map
use Rattle.std.specs.Ordering.{nat_cmp}
use Rattle.sqlite.specs.Order.{Row as Values}

abbrev pub ByPlace : Type 0 → Type 0
ByPlace X = map.FinMap nat_cmp X

-- each place is below the end, and the last before it is one
pub record EndsAt {X : Type 0} (by_place : ByPlace X) (end : ℕ) : Type 0 where
  pub below : (place : ℕ) (x : X) → map.get by_place place ≡ Some x → place < end
  pub last : (place : ℕ) → end ≡ place + 1 → IsSome (map.get by_place place)

-- the list has at each place the entry of that place
abbrev pub HoldsPlaces : {X : Type 0} → List X → ByPlace X → Type 0
HoldsPlaces xs by_place = (place : ℕ) → slice_get xs place ≡ map.get by_place place

-- the row of the entry at one of the places
abbrev pub IsPlaced : {X : Type 0} → (ℕ → X → Values) → ByPlace X → Values → Type 0
IsPlaced {X} values_of by_place values =
    (place : ℕ) × (x : X) × (map.get by_place place ≡ Some x) × (values ≡ values_of place x)

-- the row of the entry at some place of the list
abbrev pub IsRowOfList : {X : Type 0} → (ℕ → X → Values) → List X → Values → Type 0
IsRowOfList {X} values_of xs values =
    (place : ℕ) × (x : X) × (slice_get xs place ≡ Some x) × (values ≡ values_of place x)
