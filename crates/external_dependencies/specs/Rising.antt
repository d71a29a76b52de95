-- Lists in rising order.
use Rattle.std.specs.Prelude.{◌≡◌, ◌↔◌, List, Contains}
use Rattle.std.specs.List.{AllPairs}
use Rattle.std.specs.declared.cmp.Ordering.{Ordering}
use Rattle.std.specs.declared.cmp.Ordering.TheVariants.{Less}

-- each element is below all that come after it
abbrev pub IsRising : {X : Type 0} → (X → X → Ordering) → List X → Type 0
IsRising cmp xs = AllPairs (λ x y. cmp x y ≡ Less) xs

-- the two lists have the same elements
abbrev pub HaveSame : {X : Type 0} → List X → List X → Type 0
HaveSame {X} xs ys = (x : X) → Contains xs x ↔ Contains ys x

-- a list in rising order is determined by its elements alone
abbrev pub RisingIsUnique : {X : Type 0} → (X → X → Ordering) → Type 0
RisingIsUnique {X} cmp = (xs ys : List X) → IsRising cmp xs → IsRising cmp ys → HaveSame xs ys → xs ≡ ys
