-- Numbers of nodes that fall along the edges of a graph.
use Rattle.std.specs.Prelude.{◌≡◌, ℕ, ◌<◌, ◌≤◌, Bool, true, false, List, Option, Some, None}
use Rattle.std.specs.Prelude.{length, slice_index, slice_index_or}
use Rattle.external_dependencies.specs.Walk.{Edge, ReturnsTo}

-- each number is below how many there are
abbrev pub AreInRange : List ℕ → Type 0
AreInRange numbers = (k : ℕ) → k < length numbers → slice_index numbers k < length numbers

-- the node has a number, which is at most the limit
abbrev pub IsAtMost : List ℕ → ℕ → ℕ → Type 0
IsAtMost numbers limit node = (node < length numbers) × (slice_index numbers node ≤ limit)

-- a number for each node, and no edge leads to a greater one
pub record FallAlong (g : List (List ℕ)) (numbers : List ℕ) : Type 0 where
  pub same_length : length numbers ≡ length g
  pub in_range : AreInRange numbers
  pub falls : (from to : ℕ) → from < length g → Edge g from to → IsAtMost numbers (slice_index numbers from) to

-- the number is marked
abbrev pub IsMarked : List Bool → ℕ → Type 0
IsMarked marks number = slice_index_or marks number false ≡ true

-- a number that two of the first `done` nodes have is marked
pub record AreShared (numbers : List ℕ) (done : ℕ) (shared : List Bool) : Type 0 where
  pub same_length : length shared ≡ length numbers
  pub twice : (i j : ℕ) → i < j → j < done → slice_index numbers i ≡ slice_index numbers j
      → IsMarked shared (slice_index numbers i)

-- the least node from which a walk leads back, or none where there is no such node
abbrev pub IsLeastReturning : List (List ℕ) → Option ℕ → Type 0
IsLeastReturning g None = (node : ℕ) → node < length g → ReturnsTo g node → ⊥
IsLeastReturning g (Some least) =
    (least < length g) × ReturnsTo g least × ((node : ℕ) → node < least → ReturnsTo g node → ⊥)
