-- Lists in byte order of their names, each name once.
use Rattle.std.specs.Prelude.{◌≡◌, ℕ, ◌≤◌, List, length, AllPairs}
use Rattle.std.specs.List.{AllWithin}
use Rattle.std.specs.Cmp.Lexicographic.{slice_cmp}
use Rattle.std.specs.Ordering.{nat_cmp}
use Rattle.std.specs.declared.cmp.Ordering.TheVariants.{Less}

-- the name comes before the other in byte order
abbrev pub IsBelow : List ℕ → List ℕ → Type 0
IsBelow a b = slice_cmp nat_cmp a b ≡ Less

-- the name of each is below the names of all that come after it
abbrev pub AreRising : {X : Type 0} → (X → List ℕ) → List X → Type 0
AreRising name_of xs = AllPairs (λ x y. IsBelow (name_of x) (name_of y)) xs

-- the place at which something of that name would be inserted: between those of lesser and those of greater names
pub record IsPlaceFor {X : Type 0} (name_of : X → List ℕ) (xs : List X) (name : List ℕ) (place : ℕ) : Type 0 where
  pub within : place ≤ length xs
  pub before : AllWithin (λ x. IsBelow (name_of x) name) xs 0 place
  pub after : AllWithin (λ x. IsBelow name (name_of x)) xs place (length xs)
