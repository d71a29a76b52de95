-- Loops of predecessor lists.
use Rattle.std.specs.Prelude.{◌≡◌, ◌≢◌, ℕ, ◌+◌, ◌-◌, ◌<◌, ◌≤◌, List, length, slice_index_or, Contains, Option, Some, None}
use Rattle.std.specs.declared.cmp.Ordering.TheVariants.{Greater}
use Rattle.std.specs.List.{AllPairs}
use Rattle.std.specs.Ordering.{nat_cmp}
use Rattle.std.specs.Cmp.Lexicographic.{slice_cmp}
use Rattle.external_dependencies.specs.declared.links.Link.{Link}
use Rattle.external_dependencies.specs.Link.{Lists}
use Rattle.external_dependencies.specs.Rising.{IsRising}

-- two or more different nodes, an edge from each to the next, and one from the last to the first
pub record IsRing {V : Type 0} (Edge : V → V → Type 0) (ring : List V) : Type 0 where
  pub several : 2 ≤ length ring
  pub different : AllPairs (λ x y. x ≢ y) ring
  pub next : (k : ℕ) (d : V) → k + 1 < length ring → Edge (slice_index_or ring k d) (slice_index_or ring (k + 1) d)
  pub closes : (d : V) → Edge (slice_index_or ring (length ring - 1) d) (slice_index_or ring 0 d)

-- the node is on a ring
abbrev pub OnRing : {V : Type 0} → (V → V → Type 0) → V → Type 0
OnRing {V} Edge node = (ring : List V) × IsRing Edge ring × Contains ring node

-- the application is on a loop of lists: a ring of different applications, each in the list of the one before
abbrev pub OnLoop : List Link → List ℕ → Type 0
OnLoop links app = OnRing (Lists links) app

-- the least application on a loop, or none if no application is on one
abbrev pub IsLeastOnLoop : List Link → Option (List ℕ) → Type 0
IsLeastOnLoop links None = (app : List ℕ) → OnLoop links app → ⊥
IsLeastOnLoop links (Some least) =
    OnLoop links least × ((app : List ℕ) → OnLoop links app → slice_cmp nat_cmp least app ≢ Greater)

-- the applications that have a list, in byte order, each once
pub record AreApplications (links : List Link) (names : List (List ℕ)) : Type 0 where
  pub rising : IsRising (slice_cmp nat_cmp) names
  pub all : (app predecessor : List ℕ) → Lists links app predecessor → Contains names app
  pub only : (app : List ℕ) → Contains names app → (predecessor : List ℕ) × Lists links app predecessor

-- every loop of lists passes the application
abbrev pub LoopsPass : List Link → List ℕ → Type 0
LoopsPass links app = (ring : List (List ℕ)) → IsRing (Lists links) ring → Contains ring app

-- some of the links: the list of the application, and that of each application that one of them names
pub record LeadsWithin (some all : List Link) (app : List ℕ) : Type 0 where
  pub only : (link : Link) → Contains some link → Contains all link
  pub own : (link : Link) → Contains all link → link.app ≡ app → Contains some link
  pub on : (link link' : Link) → Contains some link → Contains all link' → link'.app ≡ link.predecessor
      → Contains some link'
