-- Links of predecessor lists, and their order.
use Rattle.std.specs.Prelude.{◌≡◌, ◌⊎◌, List, ℕ, Contains, Option}
use Rattle.std.specs.declared.cmp.Ordering.{Ordering}
use Rattle.std.specs.Ordering.{nat_cmp, ordering_then}
use Rattle.std.specs.Cmp.Lexicographic.{slice_cmp}
use Rattle.occurrences.specs.Key.{ByteBefore}
use Rattle.external_dependencies.specs.declared.links.Link.{Link}

-- by application, then by predecessor, in byte order; the limit is not looked at
abbrev pub link_cmp : Link → Link → Ordering
link_cmp a b = ordering_then (slice_cmp nat_cmp a.app b.app) (slice_cmp nat_cmp a.predecessor b.predecessor)

-- the first link comes before the second: by application, or in one list by predecessor, in byte order
abbrev pub LinkBefore : Link → Link → Type 0
LinkBefore a b = ByteBefore a.app b.app ⊎ ((a.app ≡ b.app) × ByteBefore a.predecessor b.predecessor)

-- the two links have the same application and the same predecessor
abbrev pub HaveSameNames : Link → Link → Type 0
HaveSameNames a b = (a.app ≡ b.app) × (a.predecessor ≡ b.predecessor)

-- no two of the links have the same names
abbrev pub AreNamedOnce : List Link → Type 0
AreNamedOnce links = (a b : Link) → Contains links a → Contains links b → HaveSameNames a b → a ≡ b

-- of all links that have the same names some stay
pub record KeepsNames (links kept : List Link) : Type 0 where
  pub only : (link : Link) → Contains kept link → Contains links link
  pub all : (link : Link) → Contains links link → (stays : Link) × Contains kept stays × HaveSameNames link stays

-- the predecessor is in the list of the application, with that limit in hours, or with none
abbrev pub ListsWithin : List Link → List ℕ → List ℕ → Option ℕ → Type 0
ListsWithin links app predecessor within =
    Contains links (record { app = app; predecessor = predecessor; within = within })

-- the predecessor is in the list of the application
abbrev pub Lists : List Link → List ℕ → List ℕ → Type 0
Lists links app predecessor = (within : Option ℕ) × ListsWithin links app predecessor within
