-- Definitions that have the ranges and forms of what records spell.
use Rattle.std.specs.Prelude.{◌≢◌, ◌⊎◌, ℕ, ◌<◌, ◌≤◌, List, [], None, Some, IfSome, IsSome}
use Rattle.std.specs.List.{All, slice_index_or}
use Rattle.std.specs.FinMap as map
use Rattle.work_calendars.specs.Calendar.{CalendarEntries}
use Rattle.work_calendars.specs.Day.{IsDay}
use Rattle.work_calendars.specs.Minute.{IsMinute}
use Rattle.work_calendars.specs.Name.{IsName, IsShort}
use Rattle.plan_periods.specs.Period.{Entry}
use Rattle.plan_periods.specs.declared.periods.Period.{Period}
use Rattle.plan_periods.specs.declared.periods.Period.TheVariants.{All as AllDays, Work, Listed}
use Rattle.run_cycles.specs.Offset.{IsOffsets}
use Rattle.run_cycles.specs.declared.cycles.CycleType.{CycleType}
use Rattle.run_cycles.specs.declared.cycles.CycleType.TheVariants.{Normal, Negative}
use Rattle.run_cycles.specs.declared.cycles.Deadline.{Deadline}
use Rattle.run_cycles.specs.declared.cycles.RunCycle.{RunCycle}
use Rattle.run_cycles.specs.declared.cycles.TheConstants.{MAX_DEADLINE_DAYS}
use Rattle.app_definition_records.specs.declared.applications.Application.{Application}
use Rattle.app_definition_records.specs.declared.predecessors.Predecessor.{Predecessor}
use Rattle.work_calendars.specs.Within.{IsWithinHours}

-- an application's name, and that of its calendar
pub record IsApplicationValue (name : List ℕ) (a : Application) : Type 0 where
  pub named : IsName name
  pub calendar : IfSome a.calendar IsName

-- some weekday is listed
abbrev pub ListsWeekday : CalendarEntries → Type 0
ListsWeekday c = (weekday : ℕ) × (weekday < 7) × IsSome (slice_index_or c.weekdays weekday None)

-- some date is listed
abbrev pub ListsDate : CalendarEntries → Type 0
ListsDate c = (day : ℕ) × IsSome (map.get c.dates day)

-- a calendar's name, and an entry at least
pub record IsCalendarValue (name : List ℕ) (c : CalendarEntries) : Type 0 where
  pub named : IsName name
  pub some : ListsWeekday c ⊎ ListsDate c

-- an origin, and the end of its interval or none
abbrev pub IsEntryValue : Entry → Type 0
IsEntryValue e = IsDay e.0 × IfSome e.1 IsDay

abbrev pub HasDaysInRange : Period → Type 0
HasDaysInRange (AllDays origin interval) = IsDay origin
HasDaysInRange (Work origin interval) = IsDay origin
HasDaysInRange (Listed entries) = All IsEntryValue entries

-- a period's short name, and its days
pub record IsPeriodValue (name : List ℕ) (p : Period) : Type 0 where
  pub named : IsShort name
  pub days : HasDaysInRange p

-- an application's name, those of predecessors, and their limits
pub record ArePredecessorValues (name : List ℕ) (listed : List Predecessor) : Type 0 where
  pub named : IsName name
  pub some : listed ≢ []
  pub names : All (λ p. IsName p.name) listed
  pub limits : All (λ p. IfSome p.within IsWithinHours) listed

pub record IsDeadlineValue (deadline : Deadline) : Type 0 where
  pub days : deadline.days ≤ MAX_DEADLINE_DAYS
  pub clock : IsMinute deadline.time

abbrev pub HasDeadline : CycleType → Type 0
HasDeadline (Normal deadline) = IsDeadlineValue deadline
HasDeadline (Negative (Some deadline)) = IsDeadlineValue deadline
HasDeadline (Negative None) = Unit {0}

pub record IsCycleValue (cycle : RunCycle) : Type 0 where
  pub name : IsShort cycle.name
  pub kind : HasDeadline cycle.kind
  pub period : IsShort cycle.period
  pub offsets : IsOffsets cycle.offsets
  pub in_effect : IsDay cycle.in_effect
  pub out_effect : IfSome cycle.out_effect IsDay
  pub ia : IsMinute cycle.ia

-- an application's name, and its run cycles
pub record AreCycleValues (name : List ℕ) (listed : List RunCycle) : Type 0 where
  pub named : IsName name
  pub some : listed ≢ []
  pub cycles : All IsCycleValue listed
