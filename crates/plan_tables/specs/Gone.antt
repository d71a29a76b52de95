-- Deletions that are looked up by their arrivals, which the store notes.
use Rattle.std.specs.Prelude.{◌≡◌, ℕ, true, List, [], ◌∷◌, ◌++◌, IfSome, None, Option, Some, if◌then◌else◌}
use Rattle.std.specs.Ordering.{is_eq}
use Rattle.occurrences.specs.declared.place.Deletion.{Deletion}
use Rattle.external_dependencies.specs.Arrival.{arrival_cmp}
use Rattle.external_dependencies.specs.Nearest.{arrival_of}
use Rattle.external_dependencies.specs.declared.live.Arrival.{Arrival}
use Rattle.plan_store_lists.specs.Keyed.{holds_key}

-- the deletion, if it is of this arrival
abbrev pub of_arrival : Arrival → Option Deletion → List Deletion
of_arrival arrival None = []
of_arrival arrival (Some d) = if is_eq (arrival_cmp (arrival_of d.row) arrival) then d ∷ [] else []

-- the deletions of these arrivals, one after another
abbrev pub of_arrivals : (ℕ → Option Deletion) → List Arrival → List Deletion
of_arrivals deletions [] = []
of_arrivals deletions (a ∷ arrivals) = of_arrival a (deletions a.serial) ++ of_arrivals deletions arrivals

-- the arrival of each deletion is among these
abbrev pub HasArrivals : (ℕ → Option Deletion) → List Arrival → Type 0
HasArrivals deletions noted = (serial : ℕ) (d : Deletion) → deletions serial ≡ Some d
    → holds_key arrival_cmp (λ (a : Arrival). a) noted (arrival_of d.row) ≡ true

-- the arrival of each deletion is noted, unless memory was refused for that
abbrev pub NotesAll : (ℕ → Option Deletion) → Option (List Arrival) → Type 0
NotesAll deletions gone = IfSome gone (HasArrivals deletions)
