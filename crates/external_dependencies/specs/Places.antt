-- For private contracts only: applications by their places in a list of names.
use Rattle.std.specs.Prelude.{◌≡◌, ◌≢◌, ℕ, ◌<◌, ◌↔◌, List, [], length, slice_index_or, Contains, Option, None, Some}
use Rattle.std.specs.declared.cmp.Ordering.TheVariants.{Greater}
use Rattle.std.specs.Ordering.{nat_cmp}
use Rattle.std.specs.Cmp.Lexicographic.{slice_cmp}
use Rattle.external_dependencies.specs.declared.links.Link.{Link}
use Rattle.external_dependencies.specs.Link.{Lists}
use Rattle.external_dependencies.specs.Loop.{OnRing}
use Rattle.external_dependencies.specs.Walk.{Edge}

-- the places of the names that are predecessors in the links
abbrev pub ArePlaces : List (List ℕ) → List Link → List ℕ → Type 0
ArePlaces names list found =
    (place : ℕ) → Contains found place
    ↔ ((place < length names) × ((link : Link) × Contains list link
    × (link.predecessor ≡ slice_index_or names place [])))

-- the graph of the lists over the first `done` names
pub record IsGraphOf (links : List Link) (names : List (List ℕ)) (done : ℕ) (graph : List (List ℕ)) : Type 0 where
  pub same_length : length graph ≡ done
  pub edges : (from to : ℕ) → from < done → Edge graph from to
      ↔ ((to < length names) × Lists links (slice_index_or names from []) (slice_index_or names to []))

-- the application is one of these names, and the predecessor is in its list
abbrev pub ListsAmong : List Link → List (List ℕ) → List ℕ → List ℕ → Type 0
ListsAmong links names app predecessor = Contains names app × Lists links app predecessor

-- the least of the names on a loop that stays among them, or none if no name is on one
abbrev pub IsLeastAmong : List Link → List (List ℕ) → Option (List ℕ) → Type 0
IsLeastAmong links names None = (app : List ℕ) → OnRing (ListsAmong links names) app → ⊥
IsLeastAmong links names (Some least) =
    OnRing (ListsAmong links names) least
    × ((app : List ℕ) → OnRing (ListsAmong links names) app → slice_cmp nat_cmp least app ≢ Greater)
