-- Pairs of occurrences that are live and no longer open, over a table of rows by serials.
use Rattle.std.specs.Prelude.{◌≡◌, ◌<◌, slice_index, ℕ, ◌+◌, ◌/◌, ◌%◌, Bool, true, false, ◌&&◌, List, [], ◌∷◌, filter}
use Rattle.std.specs.Prelude.{All, AllPairs, Contains, Option, Some, None, if◌then◌else◌}
use Rattle.occurrences.specs.declared.place.Place.{Place}
use Rattle.occurrences.specs.declared.place.Place.TheVariants.{LongTerm, Current, History, Deleted}
use Rattle.occurrences.specs.declared.status.Status.TheVariants.{W, D}
use Rattle.external_dependencies.specs.Loop.{OnRing}
use Rattle.external_dependencies.specs.declared.links.Link.{Link}
use Rattle.external_dependencies.specs.declared.pairs.Pair.{Pair}
use Rattle.external_dependencies.specs.declared.rows.PlacedRow.{PlacedRow}
use Rattle.planner_machine.specs.Pairs.{pair_of}
use Rattle.plan_store_soundness.specs.Pairs.{FitsRows, at_serial}
use Rattle.plan_store_soundness.specs.declared.closed.Slot.{Slot}

-- whether the place is live and no longer open
abbrev pub is_closed_place : Place → Bool
is_closed_place LongTerm = false
is_closed_place (Current W) = false
is_closed_place (Current D) = false
is_closed_place (Current _) = true
is_closed_place History = true
is_closed_place (Deleted _) = false

abbrev pub is_closed_row : Option PlacedRow → Bool
is_closed_row None = false
is_closed_row (Some p) = is_closed_place p.place

-- the slot of a predecessor whose successor is live and no longer open
abbrev pub slot_between : ℕ → Option PlacedRow → Option PlacedRow → Option Slot
slot_between successor None predecessor = None
slot_between successor (Some p) None = None
slot_between successor (Some p) (Some q) =
    if is_closed_place p.place then Some (record { successor = successor; app = q.row.key.app }) else None

abbrev pub slot_at : List (Option PlacedRow) → Pair → Option Slot
slot_at table pair =
    slot_between pair.successor (at_serial table pair.successor) (at_serial table pair.predecessor)

-- no two of the pairs have one slot
abbrev pub HaveOwnSlots : List (Option PlacedRow) → List Pair → Type 0
HaveOwnSlots table pairs =
    AllPairs (λ x y. (slot : Slot) → slot_at table x ≡ Some slot → slot_at table y ≡ Some slot → ⊥) pairs

-- whether both ends of the pair are live and no longer open
abbrev pub is_closed_pair : List (Option PlacedRow) → Pair → Bool
is_closed_pair table pair =
    is_closed_row (at_serial table pair.successor) && is_closed_row (at_serial table pair.predecessor)

-- a letter for each remainder of 26, and seven for a number that no other number has
abbrev pub letter : ℕ → ℕ
letter n = 65 + n % 26

abbrev pub node_name : ℕ → List ℕ
node_name n =
    letter n ∷ letter (n / 26) ∷ letter (n / 26 / 26) ∷ letter (n / 26 / 26 / 26) ∷ letter (n / 26 / 26 / 26 / 26)
    ∷ letter (n / 26 / 26 / 26 / 26 / 26) ∷ (65 + n / 26 / 26 / 26 / 26 / 26 / 26) ∷ []

-- a pair as a link between the names of its serials
abbrev pub link_of : Pair → Link
link_of pair = record {
  app = node_name pair.successor;
  predecessor = node_name pair.predecessor;
  within = None;
}

abbrev pub closed_pairs : List (Option PlacedRow) → List Pair → List Pair
closed_pairs table pairs = filter (is_closed_pair table) pairs

-- an edge leads from the successor to the predecessor of such a pair
abbrev pub IsEdge : List (Option PlacedRow) → List Pair → ℕ → ℕ → Type 0
IsEdge table pairs successor predecessor = Contains (closed_pairs table pairs) (pair_of successor predecessor)

-- the pairs have no ring
abbrev pub IsWithoutRing : List Pair → Type 0
IsWithoutRing pairs = (serial : ℕ) → OnRing (λ u v. Contains pairs (pair_of u v)) serial → ⊥

-- the predecessor has a lesser number
abbrev pub FallsBy : List ℕ → Pair → Type 0
FallsBy numbers pair = slice_index numbers pair.predecessor < slice_index numbers pair.successor

-- no such pairs have a ring
abbrev pub HaveNoRing : List (Option PlacedRow) → List Pair → Type 0
HaveNoRing table pairs = (serial : ℕ) → OnRing (IsEdge table pairs) serial → ⊥

-- all three rules of such pairs
pub record AreFitting (table : List (Option PlacedRow)) (pairs : List Pair) : Type 0 where
  pub fit : All (λ (pair : Pair). FitsRows (at_serial table pair.successor) (at_serial table pair.predecessor)) pairs
  pub slots : HaveOwnSlots table pairs
  pub ring : HaveNoRing table pairs
