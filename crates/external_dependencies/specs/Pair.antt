-- Pairs of occurrences: a successor and its predecessor.
use Rattle.std.specs.Prelude.{◌≡◌, ◌<◌, ◌⊎◌, ◌↔◌, ℕ, List, Contains, Option}
use Rattle.std.specs.declared.cmp.Ordering.{Ordering}
use Rattle.std.specs.Ordering.{nat_cmp, ordering_then}
use Rattle.occurrences.specs.declared.row.Row.{Row}
use Rattle.occurrences.specs.Place.{IsOpen}
use Rattle.external_dependencies.specs.declared.followers.Follower.{Follower}
use Rattle.external_dependencies.specs.declared.links.Link.{Link}
use Rattle.external_dependencies.specs.declared.live.Arrival.{Arrival}
use Rattle.external_dependencies.specs.declared.rows.PlacedRow.{PlacedRow}
use Rattle.external_dependencies.specs.declared.pairs.Pair.{Pair}
use Rattle.external_dependencies.specs.Link.{ListsWithin}
use Rattle.external_dependencies.specs.Nearest.{IsLiveIn, IsNearest}

-- by successor, then by predecessor
abbrev pub pair_cmp : Pair → Pair → Ordering
pair_cmp a b = ordering_then (nat_cmp a.successor b.successor) (nat_cmp a.predecessor b.predecessor)

-- a pair with its predecessor first, and back
abbrev pub follower_of : Pair → Follower
follower_of pair = record { predecessor = pair.predecessor; successor = pair.successor }

abbrev pub pair_of : Follower → Pair
pair_of follower = record { successor = follower.successor; predecessor = follower.predecessor }

-- by predecessor, then by successor
abbrev pub follower_cmp : Follower → Follower → Ordering
follower_cmp a b = ordering_then (nat_cmp a.predecessor b.predecessor) (nat_cmp a.successor b.successor)

-- the first pair comes before the second: by successor, or with the same successor by predecessor
abbrev pub PairBefore : Pair → Pair → Type 0
PairBefore a b = (a.successor < b.successor) ⊎ ((a.successor ≡ b.successor) × (a.predecessor < b.predecessor))

-- an open one of the rows, and its nearest predecessor among all rows in an application of its list, within the limit
-- that the list gives
pub record IsPairAmong (all rows : List PlacedRow) (links : List Link) (pair : Pair) : Type 0 where
  pub placed : PlacedRow
  pub stands : Contains rows placed
  pub waits : IsOpen placed.place
  pub successor : placed.row.serial ≡ pair.successor
  pub app : List ℕ
  pub within : Option ℕ
  pub listed : ListsWithin links placed.row.key.app app within
  pub near : Arrival
  pub nearest : IsNearest (IsLiveIn all) placed.row.key app within near
  pub predecessor : near.serial ≡ pair.predecessor

-- a pair from scratch
abbrev pub IsPairOf : List PlacedRow → List Link → Pair → Type 0
IsPairOf rows links pair = IsPairAmong rows rows links pair

-- a pair of one occurrence, by its list and the live arrivals
pub record IsPairFrom (live : List Arrival) (row : Row) (list : List Link) (pair : Pair) : Type 0 where
  pub successor : row.serial ≡ pair.successor
  pub link : Link
  pub listed : Contains list link
  pub near : Arrival
  pub nearest : IsNearest (Contains live) row.key link.predecessor link.within near
  pub predecessor : near.serial ≡ pair.predecessor

-- exactly the pairs from scratch
abbrev pub ArePairsOf : List PlacedRow → List Link → List Pair → Type 0
ArePairsOf rows links pairs = (pair : Pair) → Contains pairs pair ↔ IsPairOf rows links pair

-- the new pairs are the old ones with those of one occurrence
abbrev pub AddsPairsOf : List Arrival → Row → List Link → List Pair → List Pair → Type 0
AddsPairsOf live row list old new =
    (pair : Pair) → Contains new pair ↔ (Contains old pair ⊎ IsPairFrom live row list pair)
