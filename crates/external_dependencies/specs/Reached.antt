-- The rows and pairs that hold what a change reaches.
use Rattle.std.specs.Prelude.{◌≡◌, ◌⊎◌, ◌↔◌, ℕ, List, Contains, None}
use Rattle.occurrences.specs.Place.{IsOpen}
use Rattle.external_dependencies.specs.declared.links.Link.{Link}
use Rattle.external_dependencies.specs.declared.live.Arrival.{Arrival}
use Rattle.external_dependencies.specs.declared.pairs.Pair.{Pair}
use Rattle.external_dependencies.specs.declared.rows.PlacedRow.{PlacedRow}
use Rattle.external_dependencies.specs.declared.touch.Touch.{Touch}
use Rattle.external_dependencies.specs.Link.{Lists}
use Rattle.external_dependencies.specs.Nearest.{IsLiveIn, IsNearest}
use Rattle.external_dependencies.specs.Touch.{HasRowOf, MayReach}

-- of the applications of these rows, both links have the same lists, with the same limits
abbrev pub HaveSameLists : List PlacedRow → List Link → List Link → Type 0
HaveSameLists rows some links = (q : PlacedRow) → Contains rows q → (link : Link) → link.app ≡ q.row.key.app
    → Contains some link ↔ Contains links link

-- one of the rows has the serial
abbrev pub HasSerialOf : List PlacedRow → ℕ → Type 0
HasSerialOf rows serial = (q : PlacedRow) × Contains rows q × (q.row.serial ≡ serial)

-- an open one of the rows, which the change may reach, has the serial
abbrev pub IsReachedIn : Touch → List Link → List PlacedRow → ℕ → Type 0
IsReachedIn touch links rows serial =
    (q : PlacedRow) × Contains rows q × (q.row.serial ≡ serial) × IsOpen q.place × MayReach touch links q.row

-- the open ones of the rows that the change may reach
abbrev pub AreAsked : Touch → List Link → List PlacedRow → List PlacedRow → Type 0
AreAsked touch links rows asked =
    (q : PlacedRow) → Contains asked q ↔ (Contains rows q × (IsOpen q.place × MayReach touch links q.row))

-- the rows and the pairs hold what the change reaches. Of all rows after it: each open one that it may reach, with
-- whatever is nearest to it in each application of its list, were there no limit. Of all pairs before it: those of
-- these rows, and those of what was withdrawn
pub record HoldsReached (touch : Touch) (links : List Link) (now : List PlacedRow) (old : List Pair)
    (rows : List PlacedRow) (pairs : List Pair) : Type 0 where
  pub rows_stand : (q : PlacedRow) → Contains rows q → Contains now q
  pub reached : (q : PlacedRow) → Contains now q → IsOpen q.place → MayReach touch links q.row → Contains rows q
  pub nearest : (q : PlacedRow) → Contains now q → IsOpen q.place → MayReach touch links q.row → (app : List ℕ)
      → Lists links q.row.key.app app → (near : Arrival)
      → IsNearest (IsLiveIn rows) q.row.key app None near ↔ IsNearest (IsLiveIn now) q.row.key app None near
  pub pairs_stood : (pair : Pair) → Contains pairs pair → Contains old pair
  pub had : (pair : Pair) → Contains old pair
      → IsReachedIn touch links now pair.successor ⊎ HasRowOf touch.withdrawn.items pair.successor
      → Contains pairs pair
