-- Arrivals of the rows of a list, and the greatest of some.
use Rattle.std.specs.Prelude.{◌≡◌, ◌≢◌, List, Contains, Option, Some, None, if◌then◌else◌}
use Rattle.std.specs.Ordering.{is_lt}
use Rattle.std.specs.declared.cmp.Ordering.TheVariants.{Greater}
use Rattle.occurrences.specs.declared.place.CurrentRow.{CurrentRow}
use Rattle.occurrences.specs.declared.row.Row.{Row}
use Rattle.occurrences.specs.declared.status.Status.TheVariants.{D}
use Rattle.external_dependencies.specs.Arrival.{arrival_cmp}
use Rattle.external_dependencies.specs.Nearest.{arrival_of}
use Rattle.external_dependencies.specs.declared.live.Arrival.{Arrival}

-- one of the rows arrives so
abbrev pub arrives : List Row → Arrival → Type 0
arrives rows a = (row : Row) × Contains rows row × (arrival_of row ≡ a)

-- one of the rows that is not deleted arrives so
abbrev pub arrives_live : List CurrentRow → Arrival → Type 0
arrives_live rows a = (current : CurrentRow) × Contains rows current × (current.status ≢ D)
    × (arrival_of current.row ≡ a)

-- the greatest of some arrivals, or that there is none
abbrev pub IsGreatestOf : (Arrival → Type 0) → Option Arrival → Type 0
IsGreatestOf Among (Some a) = Among a × ((b : Arrival) → Among b → arrival_cmp b a ≢ Greater)
IsGreatestOf Among None = (b : Arrival) → Among b → ⊥

-- the greater of two
abbrev pub later_of : Option Arrival → Option Arrival → Option Arrival
later_of None second = second
later_of (Some a) None = Some a
later_of (Some a) (Some b) = if is_lt (arrival_cmp a b) then Some b else Some a
