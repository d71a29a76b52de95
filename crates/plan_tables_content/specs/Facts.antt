-- What a planner knows, fact by fact: each is the values of one row of a table.
use Rattle.std.specs.Prelude.{◌≡◌, ℕ, List, [], ◌∷◌, Bool, true, false, Option, Some, None, option_map, slice_get}
use Rattle.std.specs.Prelude.{Contains, ℤ, pos, codes}
use Rattle.std.specs.FinMap as map
use Rattle.sqlite.specs.Order.{Row as Values}
use Rattle.sqlite.specs.declared.types.Value.{Value}
use Rattle.sqlite.specs.declared.types.Value.TheVariants.{Null, Int, Text}
use Rattle.work_calendars.specs.Calendar.{CalendarEntries}
use Rattle.work_calendars.specs.declared.statuses.DayStatus.{DayStatus}
use Rattle.work_calendars.specs.declared.statuses.DayStatus.TheVariants.{Work, Free}
use Rattle.occurrences.specs.Place.{reason_letter}
use Rattle.occurrences.specs.Row.{run_cycle_of}
use Rattle.occurrences.specs.Status.{status_letter}
use Rattle.occurrences.specs.declared.place.CurrentRow.{CurrentRow}
use Rattle.occurrences.specs.declared.place.Deletion.{Deletion}
use Rattle.occurrences.specs.declared.row.Row.{Row}
use Rattle.plan_periods.specs.declared.periods.Period.{Period}
use Rattle.plan_periods.specs.declared.periods.Period.TheVariants as period
use Rattle.run_cycles.specs.declared.cycles.CycleType.{CycleType}
use Rattle.run_cycles.specs.declared.cycles.CycleType.TheVariants.{Normal, Negative}
use Rattle.run_cycles.specs.declared.cycles.Deadline.{Deadline}
use Rattle.run_cycles.specs.declared.cycles.RunCycle.{RunCycle}
use Rattle.app_definition_records.specs.CycleRecords.{rule_text}
use Rattle.app_definition_records.specs.declared.applications.Application.{Application}
use Rattle.app_definition_records.specs.declared.predecessors.Predecessor.{Predecessor}
use Rattle.external_dependencies.specs.declared.links.Link.{Link}
use Rattle.external_dependencies.specs.declared.pairs.Pair.{Pair}

abbrev pub or_null : Option Value → Value
or_null None = Null
or_null (Some v) = v

abbrev pub natural : ℕ → Value
natural n = Int (pos n)

abbrev pub flag : Bool → Value
flag true = natural 1
flag false = natural 0

-- ---- occurrences

abbrev pub row_values : Row → Values
row_values row = natural row.serial ∷ Text row.key.app ∷ natural row.key.ia ∷ natural row.deadline
    ∷ or_null (option_map Text (run_cycle_of row.origin)) ∷ []

abbrev pub current_values : CurrentRow → Values
current_values current = natural current.row.serial ∷ Text current.row.key.app ∷ natural current.row.key.ia
    ∷ natural current.row.deadline ∷ or_null (option_map Text (run_cycle_of current.row.origin))
    ∷ Text (status_letter current.status ∷ []) ∷ []

abbrev pub deletion_values : Deletion → Values
deletion_values deletion = natural deletion.row.serial ∷ Text deletion.row.key.app ∷ natural deletion.row.key.ia
    ∷ natural deletion.row.deadline ∷ or_null (option_map Text (run_cycle_of deletion.row.origin))
    ∷ Text (reason_letter deletion.reason ∷ []) ∷ []

-- the keys by which their rows are found
abbrev pub row_key : Row → Values
row_key row = natural row.serial ∷ []

abbrev pub current_key : CurrentRow → Values
current_key current = natural current.row.serial ∷ []

abbrev pub deletion_key : Deletion → Values
deletion_key deletion = natural deletion.row.serial ∷ []

abbrev pub pair_values : Pair → Values
pair_values pair = natural pair.successor ∷ natural pair.predecessor ∷ []

-- the hours of a limit, and null without one
abbrev pub link_values : Link → Values
link_values link = Text link.app ∷ Text link.predecessor ∷ or_null (option_map natural link.within) ∷ []

abbrev pub link_key : Link → Values
link_key link = Text link.app ∷ Text link.predecessor ∷ []

-- ---- definitions, each under its name

abbrev pub application_values : List ℕ → Application → Values
application_values name a = Text name ∷ flag a.active ∷ or_null (option_map Text a.calendar) ∷ []

abbrev pub is_work : DayStatus → Value
is_work Work = natural 1
is_work Free = natural 0

-- of a calendar: each weekday and each date that it lists
pub data IsCalendarRow (name : List ℕ) (entries : CalendarEntries) (values : Values) : Type 0 where
  Weekday : (weekday : ℕ) (status : DayStatus) → slice_get entries.weekdays weekday ≡ Some (Some status)
      → values ≡ Text name ∷ natural 0 ∷ natural weekday ∷ is_work status ∷ []
      → IsCalendarRow name entries values
  Date : (day : ℕ) (status : DayStatus) → map.get entries.dates day ≡ Some status
      → values ≡ Text name ∷ natural 1 ∷ natural day ∷ is_work status ∷ []
      → IsCalendarRow name entries values

-- one entry of a period
abbrev pub entry_values : List ℕ → ℕ → List ℕ → ℕ → Option ℕ → Values
entry_values name place letter origin second = Text name ∷ natural place ∷ Text letter ∷ natural origin
    ∷ or_null (option_map natural second) ∷ []

-- of a period: its one entry, or each of those that it lists
abbrev pub IsPeriodRow : List ℕ → Period → Values → Type 0
IsPeriodRow name (period.All origin interval) values = values ≡ entry_values name 0 (codes "A") origin (Some interval)
IsPeriodRow name (period.Work origin interval) values = values ≡ entry_values name 0 (codes "W") origin (Some interval)
IsPeriodRow name (period.Listed origins) values =
    (place : ℕ) × (entry : ℕ × Option ℕ) × (slice_get origins place ≡ Some entry)
    × (values ≡ entry_values name place (codes "N") entry.0 entry.1)

abbrev pub type_letter : CycleType → List ℕ
type_letter (Normal _) = codes "N"
type_letter (Negative _) = codes "X"

abbrev pub deadline_of : CycleType → Option Deadline
deadline_of (Normal deadline) = Some deadline
deadline_of (Negative deadline) = deadline

abbrev pub cycle_values : List ℕ → RunCycle → Values
cycle_values app cycle = Text app ∷ Text cycle.name ∷ Text (type_letter cycle.kind) ∷ Text cycle.period
    ∷ Text (rule_text cycle.rule) ∷ natural cycle.in_effect ∷ or_null (option_map natural cycle.out_effect)
    ∷ natural cycle.ia ∷ or_null (option_map (λ (d : Deadline). natural d.days) (deadline_of cycle.kind))
    ∷ or_null (option_map (λ (d : Deadline). natural d.time) (deadline_of cycle.kind)) ∷ []

-- of an application's run cycles: each of them
abbrev pub IsCycleRow : List ℕ → List RunCycle → Values → Type 0
IsCycleRow app cycles values = (cycle : RunCycle) × Contains cycles cycle × (values ≡ cycle_values app cycle)

abbrev pub offset_values : List ℕ → List ℕ → ℕ → ℤ → Values
offset_values app name place k = Text app ∷ Text name ∷ natural place ∷ Int k ∷ []

-- of an application's run cycles: each offset of each of them
abbrev pub IsOffsetRow : List ℕ → List RunCycle → Values → Type 0
IsOffsetRow app cycles values = (cycle : RunCycle) × Contains cycles cycle × (place : ℕ) × (k : ℤ)
    × (slice_get cycle.offsets place ≡ Some k) × (values ≡ offset_values app cycle.name place k)

-- one predecessor of an application: its name, and the hours of its limit or null
abbrev pub predecessor_values : List ℕ → Predecessor → Values
predecessor_values app p = Text app ∷ Text p.name ∷ or_null (option_map natural p.within) ∷ []

-- of an application's list of predecessors: each of them
abbrev pub IsPredecessorRow : List ℕ → List Predecessor → Values → Type 0
IsPredecessorRow app all values = (p : Predecessor) × Contains all p × (values ≡ predecessor_values app p)
