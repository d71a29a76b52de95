-- Pairs of occurrences that are no longer open.
use Rattle.std.specs.Prelude.{◌≡◌, ℕ, zero, suc, List, slice_index_or, Contains, Option, Some, None}
use Rattle.occurrences.specs.Place.{IsComplete, IsLive, IsOpen}
use Rattle.occurrences.specs.declared.place.Place.{Place}
use Rattle.external_dependencies.specs.Loop.{OnRing}
use Rattle.external_dependencies.specs.Nearest.{IsCandidate, arrival_of}
use Rattle.external_dependencies.specs.declared.pairs.Pair.{Pair}
use Rattle.external_dependencies.specs.declared.rows.PlacedRow.{PlacedRow}
use Rattle.planner_machine.specs.Content.{Sets, IsOnlyAt}
use Rattle.planner_machine.specs.Pairs.{IsClosedAt, IsClosedPair, IsCompleteAt}

-- the row at a serial of a table by serials
abbrev pub at_serial : List (Option PlacedRow) → ℕ → Option PlacedRow
at_serial table zero = None
at_serial table (suc k) = slice_index_or table k None

-- live and no longer open
abbrev pub IsClosedPlace : Place → Type 0
IsClosedPlace place = IsLive place × (IsOpen place → ⊥)

-- there is a predecessor, it is complete, and it arrives as a predecessor may, whatever the limit
abbrev pub HasComplete : PlacedRow → Option PlacedRow → Type 0
HasComplete successor None = ⊥
HasComplete successor (Some predecessor) = IsComplete predecessor.place
    × IsCandidate successor.row.key predecessor.row.key.app None (arrival_of predecessor.row)

-- the same if the successor is live and no longer open
abbrev pub FitsRows : Option PlacedRow → Option PlacedRow → Type 0
FitsRows None predecessor = Unit {0}
FitsRows (Some successor) predecessor = IsClosedPlace successor.place → HasComplete successor predecessor

-- the same of the sets: the predecessor of what is live and no longer open is complete, and arrives as one may
abbrev pub FitsAt : Sets → Pair → Type 0
FitsAt s pair = IsClosedAt s pair.successor → IsCompleteAt s pair.predecessor
    × ((p q : PlacedRow) → IsOnlyAt s pair.successor p → IsOnlyAt s pair.predecessor q
    → IsCandidate p.row.key q.row.key.app None (arrival_of q.row))

-- what is live and no longer open has at most one predecessor of each application
abbrev pub HaveOneEach : Sets → List Pair → Type 0
HaveOneEach s pairs = (successor m n : ℕ) (p q : PlacedRow) → IsClosedAt s successor
    → Contains pairs (record { successor = successor; predecessor = m })
    → Contains pairs (record { successor = successor; predecessor = n })
    → IsOnlyAt s m p → IsOnlyAt s n q → p.row.key.app ≡ q.row.key.app → m ≡ n

-- the rules of pairs of what is live and no longer open
pub record AreClosedPairs (s : Sets) (pairs : List Pair) : Type 0 where
  pub fit : (pair : Pair) → Contains pairs pair → FitsAt s pair
  pub one_each : HaveOneEach s pairs
  pub no_loop : (serial : ℕ) → OnRing (IsClosedPair s pairs) serial → ⊥
