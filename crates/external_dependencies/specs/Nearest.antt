-- The nearest predecessor of an occurrence in an application.
use Rattle.std.specs.Prelude.{◌≡◌, ℕ, ◌+◌, ◌*◌, ◌<◌, ◌≤◌, List, Contains, Option, Some, None}
use Rattle.occurrences.specs.declared.row.Row.{Row}
use Rattle.occurrences.specs.declared.key.Key.{Key}
use Rattle.occurrences.specs.Place.{IsLive}
use Rattle.external_dependencies.specs.declared.live.Arrival.{Arrival}
use Rattle.external_dependencies.specs.declared.rows.PlacedRow.{PlacedRow}

-- the arrival of an occurrence
abbrev pub arrival_of : Row → Arrival
arrival_of row = record { app = row.key.app; ia = row.key.ia; serial = row.serial }

-- a live one of the rows arrives so
abbrev pub IsLiveIn : List PlacedRow → Arrival → Type 0
IsLiveIn rows arrival =
    (placed : PlacedRow) × Contains rows placed × IsLive placed.place × (arrival_of placed.row ≡ arrival)

-- the moment is at most that many hours after the first, or there is no limit
abbrev pub ArrivesWithin : Option ℕ → ℕ → ℕ → Type 0
ArrivesWithin None ia first = Unit {0}
ArrivesWithin (Some hours) ia first = ia ≤ first + hours * 60

-- may precede the occurrence with that key in the application: it arrives at or before it, before it in its own
-- application, and at most as many hours before it as the limit says
pub record IsCandidate (key : Key) (app : List ℕ) (within : Option ℕ) (arrival : Arrival) : Type 0 where
  pub of_app : arrival.app ≡ app
  pub in_time : arrival.ia ≤ key.ia
  pub before_own : app ≡ key.app → arrival.ia < key.ia
  pub close : ArrivesWithin within key.ia arrival.ia

-- of all live candidates the one that arrives last; of several that arrive last together, the one of the greatest
-- serial
pub record IsNearest (LiveAt : Arrival → Type 0) (key : Key) (app : List ℕ) (within : Option ℕ) (near : Arrival)
    : Type 0 where
  pub live : LiveAt near
  pub candidate : IsCandidate key app within near
  pub greatest : (other : Arrival) → LiveAt other → IsCandidate key app within other → other.ia ≤ near.ia
  pub last : (other : Arrival) → LiveAt other → IsCandidate key app within other → other.ia ≡ near.ia
      → other.serial ≤ near.serial

-- the nearest, or none where there is no live candidate
abbrev pub IsNearestArrival : (Arrival → Type 0) → Key → List ℕ → Option ℕ → Option Arrival → Type 0
IsNearestArrival LiveAt key app within None =
    (other : Arrival) → LiveAt other → IsCandidate key app within other → ⊥
IsNearestArrival LiveAt key app within (Some near) = IsNearest LiveAt key app within near

-- the serial of the nearest, or none where there is no live candidate
abbrev pub IsNearestAnswer : (Arrival → Type 0) → Key → List ℕ → Option ℕ → Option ℕ → Type 0
IsNearestAnswer LiveAt key app within None = (other : Arrival) → LiveAt other → IsCandidate key app within other → ⊥
IsNearestAnswer LiveAt key app within (Some serial) =
    (near : Arrival) × IsNearest LiveAt key app within near × (near.serial ≡ serial)
