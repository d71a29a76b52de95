-- What a change of the live occurrences and of the lists in force touches, and what it may reach.
use Rattle.std.specs.Prelude.{◌≡◌, ◌⊎◌, ◌↔◌, ℕ, ◌≤◌, List, Contains, Option, Some, None}
use Rattle.occurrences.specs.declared.key.Key.{Key}
use Rattle.occurrences.specs.declared.row.Row.{Row}
use Rattle.occurrences.specs.Place.{IsLive, IsOpen}
use Rattle.external_dependencies.specs.declared.links.Link.{Link}
use Rattle.external_dependencies.specs.declared.rows.PlacedRow.{PlacedRow}
use Rattle.external_dependencies.specs.declared.touch.Touch.{Touch}
use Rattle.external_dependencies.specs.Link.{ListsWithin}
use Rattle.external_dependencies.specs.Nearest.{IsCandidate, arrival_of}
use Rattle.external_dependencies.specs.Settled.{IsOnce}

-- the moment is at or before the last of a stretch of time, or the stretch has no end
abbrev pub IsWithin : Option ℕ → ℕ → Type 0
IsWithin None ia = Unit {0}
IsWithin (Some last) ia = ia ≤ last

-- one of the rows has the serial
abbrev pub HasRowOf : List Row → ℕ → Type 0
HasRowOf rows serial = (row : Row) × Contains rows row × (row.serial ≡ serial)

-- the occurrence was made or opened
abbrev pub IsAnew : Touch → ℕ → Type 0
IsAnew touch serial = HasRowOf touch.made.items serial ⊎ Contains touch.opened.items serial

-- the row came or went: it was made or withdrawn
abbrev pub IsMoved : Touch → Row → Type 0
IsMoved touch row = Contains touch.made.items row ⊎ Contains touch.withdrawn.items row

-- a row came or went that may precede the occurrence in the application, within the limit
abbrev pub HasMovedBefore : Touch → Key → List ℕ → Option ℕ → Type 0
HasMovedBefore touch key app within =
    (moved : Row) × IsMoved touch moved × IsCandidate key app within (arrival_of moved)

-- a row came or went that may precede the occurrence in an application of its list, within the limit there
abbrev pub HasMovedByList : Touch → List Link → Row → Type 0
HasMovedByList touch links row = (link : Link) × Contains links link
    × ((link.app ≡ row.key.app) × HasMovedBefore touch row.key link.predecessor link.within)

-- the change may reach the open occurrence: it was made or opened, or its list changed, or a row came or went that may
-- precede it
abbrev pub MayReach : Touch → List Link → Row → Type 0
MayReach touch links row =
    IsAnew touch row.serial ⊎ (Contains touch.lists.items row.key.app ⊎ HasMovedByList touch links row)

-- the occurrence lives among the rows, under its serial and its key
abbrev pub LivesIn : List PlacedRow → Row → Type 0
LivesIn rows row =
    (p : PlacedRow) × Contains rows p × IsLive p.place × (p.row.serial ≡ row.serial) × (p.row.key ≡ row.key)

-- the occurrence is open among the rows, under its serial and its key
abbrev pub IsOpenIn : List PlacedRow → Row → Type 0
IsOpenIn rows row =
    (p : PlacedRow) × Contains rows p × IsOpen p.place × (p.row.serial ≡ row.serial) × (p.row.key ≡ row.key)

-- the application has the same list before and after, with the same limits
abbrev pub HasSameList : List Link → List Link → List ℕ → Type 0
HasSameList was_links links app = (predecessor : List ℕ) (within : Option ℕ)
    → ListsWithin was_links app predecessor within ↔ ListsWithin links app predecessor within

-- `touch` names all that a change touches that leads from the one rows and lists to the other
pub record Touches (touch : Touch) (was now : List PlacedRow) (was_links links : List Link) : Type 0 where
  pub once_before : IsOnce was
  pub once_after : IsOnce now
  -- what lived lives on, or was withdrawn, and what was withdrawn lives no more
  pub lives_on : (p : PlacedRow) → Contains was p → IsLive p.place
      → LivesIn now p.row ⊎ Contains touch.withdrawn.items p.row
  pub withdrawn : (q : PlacedRow) → Contains now q → IsLive q.place → HasRowOf touch.withdrawn.items q.row.serial → ⊥
  -- what lives lived, or was made
  pub lived : (q : PlacedRow) → Contains now q → IsLive q.place
      → LivesIn was q.row ⊎ Contains touch.made.items q.row
  -- what is open was open, or was made or opened
  pub opened : (q : PlacedRow) → Contains now q → IsOpen q.place → IsOpenIn was q.row ⊎ IsAnew touch q.row.serial
  -- what was open is open, or was withdrawn or closed
  pub closed : (p : PlacedRow) → Contains was p → IsOpen p.place
      → IsOpenIn now p.row ⊎ (Contains touch.withdrawn.items p.row ⊎ Contains touch.closed.items p.row.serial)
  -- a list is as it was, or is named
  pub lists : (app : List ℕ) → HasSameList was_links links app ⊎ Contains touch.lists.items app
