-- The live occurrences of the sets, as a list.
use Rattle.std.specs.Prelude.{◌≡◌, ◌≢◌, ◌⊎◌, ◌↔◌, ℕ, List, Contains, Some}
use Rattle.occurrences.specs.Place.{IsLive}
use Rattle.occurrences.specs.declared.place.CurrentRow.{CurrentRow}
use Rattle.occurrences.specs.declared.place.Place.{Place}
use Rattle.occurrences.specs.declared.place.Place.TheVariants.{Current}
use Rattle.occurrences.specs.declared.row.Row.{Row}
use Rattle.occurrences.specs.declared.status.Status.{Status}
use Rattle.occurrences.specs.declared.status.Status.TheVariants.{D}
use Rattle.external_dependencies.specs.declared.links.Link.{Link}
use Rattle.external_dependencies.specs.declared.pairs.Pair.{Pair}
use Rattle.external_dependencies.specs.declared.rows.PlacedRow.{PlacedRow}
use Rattle.planner_machine.specs.Content.{Sets, IsOnlyAt}
use Rattle.planner_machine.specs.Pairs.{IsKeptPair, IsOpenPair}
use Rattle.planner_machine.specs.RowsSound.{RowsSound}

-- the list has exactly the live occurrences of the sets, each under its serial
pub record AreLiveRows (s : Sets) (rows : List PlacedRow) : Type 0 where
  pub all : (serial : ℕ) (p : PlacedRow) → IsOnlyAt s serial p → IsLive p.place
      → Contains rows p × (p.row.serial ≡ serial)
  pub only : (p : PlacedRow) → Contains rows p → IsOnlyAt s p.row.serial p × IsLive p.place

-- the lists are the long-term plan, the current plan and history of the sets
pub record HasLists (s : Sets) (planned : List Row) (current : List CurrentRow) (completed : List Row) : Type 0 where
  pub sound : RowsSound s
  pub ltp : (row : Row) → Contains planned row ↔ (s.ltp row.serial ≡ Some row)
  pub cp : (x : CurrentRow) → Contains current x ↔ (s.cp x.row.serial ≡ Some x)
  pub history : (row : Row) → Contains completed row ↔ (s.history row.serial ≡ Some row)

-- the list has exactly the rows of history
abbrev pub AreCompleted : Sets → List Row → Type 0
AreCompleted s completed = (row : Row) → Contains completed row ↔ (s.history row.serial ≡ Some row)

-- the rows of the list are added, in that place
abbrev pub AddsRows : List Row → Place → List PlacedRow → List PlacedRow → Type 0
AddsRows list place old new =
    (p : PlacedRow) → Contains new p ↔ (Contains old p ⊎ (Contains list p.row × (p.place ≡ place)))

-- the list has the row with a status other than deleted, and that is its place
pub record IsCurrentIn (list : List CurrentRow) (p : PlacedRow) : Type 0 where
  pub status : Status
  pub listed : Contains list (record { row = p.row; status = status })
  pub placed : p.place ≡ Current status
  pub stays : status ≢ D

abbrev pub AddsCurrent : List CurrentRow → List PlacedRow → List PlacedRow → Type 0
AddsCurrent list old new = (p : PlacedRow) → Contains new p ↔ (Contains old p ⊎ IsCurrentIn list p)

-- the list has exactly the pairs after a statement
abbrev pub HasPairsAfter : List Pair → List Link → Sets → List Pair → Type 0
HasPairsAfter before links s pairs =
    (pair : Pair) → Contains pairs pair ↔ (IsOpenPair links s pair ⊎ IsKeptPair before s pair)
