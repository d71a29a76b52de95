-- Walks along the edges of a graph.
use Rattle.std.specs.Prelude.{◌≢◌, ℕ, ◌<◌, List, [], ◌∷◌, length, slice_index_or, Contains, All, Vec}
use Rattle.std.specs.declared.alloc.Global.{Global}

-- the elements of a vector
abbrev pub items_of : Vec ℕ Global → List ℕ
items_of v = v.items

-- an edge of the graph leads from the first node to the second
abbrev pub Edge : List (List ℕ) → ℕ → ℕ → Type 0
Edge g from to = Contains (slice_index_or g from []) to

-- each edge leads to a node of the graph
abbrev pub IsGraph : List (List ℕ) → Type 0
IsGraph g = All (All (λ to. to < length g)) g

-- a step of a walk: an edge between different nodes
abbrev pub WalkStep : {V : Type 0} → (V → V → Type 0) → V → V → Type 0
WalkStep E from to = E from to × (from ≢ to)

-- steps lead from the first node over those between to the last
abbrev pub IsWalk : {V : Type 0} → (V → V → Type 0) → V → List V → V → Type 0
IsWalk E from [] to = WalkStep E from to
IsWalk E from (x ∷ between) to = WalkStep E from x × IsWalk E x between to

-- some walk leads from the first node to the last
abbrev pub Reaches : {V : Type 0} → (V → V → Type 0) → V → V → Type 0
Reaches {V} E from to = (between : List V) × IsWalk E from between to

-- some walk leads back to the node
abbrev pub ReturnsTo : List (List ℕ) → ℕ → Type 0
ReturnsTo g node = Reaches (Edge g) node node
