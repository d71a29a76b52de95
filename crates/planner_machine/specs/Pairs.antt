-- The pairs after a statement, from those before it.
use Rattle.std.specs.Prelude.{◌≡◌, ◌⊎◌, ◌↔◌, ℕ, List, Contains, Option}
use Rattle.occurrences.specs.Place.{IsComplete, IsLive, IsOpen}
use Rattle.external_dependencies.specs.Link.{ListsWithin}
use Rattle.external_dependencies.specs.Nearest.{IsNearest, arrival_of}
use Rattle.external_dependencies.specs.Pair.{pair_cmp}
use Rattle.external_dependencies.specs.Rising.{IsRising}
use Rattle.external_dependencies.specs.declared.links.Link.{Link}
use Rattle.external_dependencies.specs.declared.live.Arrival.{Arrival}
use Rattle.external_dependencies.specs.declared.pairs.Pair.{Pair}
use Rattle.external_dependencies.specs.declared.rows.PlacedRow.{PlacedRow}
use Rattle.planner_machine.specs.Content.{Sets, IsOnlyAt}

abbrev pub pair_of : ℕ → ℕ → Pair
pair_of successor predecessor = record { successor = successor; predecessor = predecessor }

-- a live occurrence of the sets arrives so
abbrev pub LiveAt : Sets → Arrival → Type 0
LiveAt s arrival = (serial : ℕ) × (p : PlacedRow) × IsOnlyAt s serial p × IsLive p.place × (arrival_of p.row ≡ arrival)

-- the successor is open, and the predecessor is its nearest one in an application of its list, within the limit that
-- the list gives
pub record IsOpenPair (links : List Link) (s : Sets) (pair : Pair) : Type 0 where
  pub placed : PlacedRow
  pub stands : IsOnlyAt s pair.successor placed
  pub waits : IsOpen placed.place
  pub app : List ℕ
  pub within : Option ℕ
  pub listed : ListsWithin links placed.row.key.app app within
  pub near : Arrival
  pub nearest : IsNearest (LiveAt s) placed.row.key app within near
  pub predecessor : near.serial ≡ pair.predecessor

-- the successor is live and no longer open, and had the pair before
pub record IsKeptPair (before : List Pair) (s : Sets) (pair : Pair) : Type 0 where
  pub placed : PlacedRow
  pub stands : IsOnlyAt s pair.successor placed
  pub live : IsLive placed.place
  pub waits_no_more : IsOpen placed.place → ⊥
  pub had : Contains before pair

-- the pairs after a statement, where those before it, the lists in force after it and the sets after it are such: of
-- an open occurrence those with its nearest predecessors; of one that started, ended in error or is complete those
-- that it had
pub record ArePairs (before : List Pair) (links : List Link) (s : Sets) (pairs : List Pair) : Type 0 where
  pub rising : IsRising pair_cmp pairs
  pub exactly : (pair : Pair) → Contains pairs pair ↔ (IsOpenPair links s pair ⊎ IsKeptPair before s pair)

-- the occurrence of the serial is complete: in the current plan with that status, or in history
abbrev pub IsCompleteAt : Sets → ℕ → Type 0
IsCompleteAt s serial = (p : PlacedRow) × IsOnlyAt s serial p × IsComplete p.place

-- the occurrence of the serial is live, and no longer open
abbrev pub IsClosedAt : Sets → ℕ → Type 0
IsClosedAt s serial = (p : PlacedRow) × IsOnlyAt s serial p × IsLive p.place × (IsOpen p.place → ⊥)

-- a pair of two occurrences that are no longer open
abbrev pub IsClosedPair : Sets → List Pair → ℕ → ℕ → Type 0
IsClosedPair s pairs successor predecessor =
    Contains pairs (pair_of successor predecessor) × IsClosedAt s successor × IsClosedAt s predecessor
