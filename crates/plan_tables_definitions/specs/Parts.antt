-- The rows of parts of a definition.
use Rattle.std.specs.Prelude.{◌≡◌, ℕ, ℤ, List, [], ◌∷◌, None, Some, slice_get, codes}
use Rattle.std.specs.FinMap as map
use Rattle.std.specs.List.{slice_index_or}
use Rattle.sqlite.specs.Order.{Row as Values}
use Rattle.sqlite.specs.declared.types.Value.TheVariants.{Text}
use Rattle.work_calendars.specs.Calendar.{CalendarEntries}
use Rattle.work_calendars.specs.declared.statuses.DayStatus.{DayStatus}
use Rattle.plan_periods.specs.Period.{Entry}
use Rattle.run_cycles.specs.declared.cycles.RunCycle.{RunCycle}
use Rattle.app_definition_records.specs.declared.predecessors.Predecessor.{Predecessor}
use Rattle.plan_tables_content.specs.Facts.{cycle_values, entry_values, is_work, natural, offset_values, predecessor_values}

-- what a calendar lists for this weekday, if it lists it
abbrev pub IsWeekdayRow : List ℕ → CalendarEntries → ℕ → Values → Type 0
IsWeekdayRow name entries weekday values = (status : DayStatus)
    × (slice_index_or entries.weekdays weekday None ≡ Some status)
    × (values ≡ Text name ∷ natural 0 ∷ natural weekday ∷ is_work status ∷ [])

-- what it lists for this date, if it lists it
abbrev pub IsDateRow : List ℕ → CalendarEntries → ℕ → Values → Type 0
IsDateRow name entries day values = (status : DayStatus) × (map.get entries.dates day ≡ Some status)
    × (values ≡ Text name ∷ natural 1 ∷ natural day ∷ is_work status ∷ [])

-- an entry of a period of listed origins, at its place
abbrev pub IsListedRow : List ℕ → ℕ → Entry → Values → Type 0
IsListedRow name place entry values = values ≡ entry_values name place (codes "N") entry.0 entry.1

-- the row of one run cycle
abbrev pub IsRowOfCycle : List ℕ → RunCycle → Values → Type 0
IsRowOfCycle app cycle values = values ≡ cycle_values app cycle

-- an offset of one run cycle, at its place
abbrev pub IsOffsetAt : List ℕ → List ℕ → ℕ → ℤ → Values → Type 0
IsOffsetAt app name place k values = values ≡ offset_values app name place k

abbrev pub IsOffsetOf : List ℕ → RunCycle → Values → Type 0
IsOffsetOf app cycle values = (place : ℕ) × (k : ℤ) × (slice_get cycle.offsets place ≡ Some k)
    × IsOffsetAt app cycle.name place k values

-- one predecessor of an application
abbrev pub IsLinkRow : List ℕ → Predecessor → Values → Type 0
IsLinkRow app p values = values ≡ predecessor_values app p
