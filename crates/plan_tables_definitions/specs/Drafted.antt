-- What rows of one name have encoded so far, kind by kind, and definitions that rows can encode.
use Rattle.std.specs.Prelude.{◌≡◌, ◌⊎◌, ℕ, List, [], ◌∷◌, Option, Some, None, length, Contains, IfSome}
use Rattle.std.specs.FinMap as map
use Rattle.std.specs.List.{slice_index_or}
use Rattle.std.proofs.Common.{ap}
use Rattle.sqlite.specs.Order.{Row as Values, column}
use Rattle.sqlite.specs.declared.types.Value.TheVariants.{Text}
use Rattle.work_calendars.specs.Calendar.{CalendarEntries}
use Rattle.work_calendars.specs.Day.{IsDay}
use Rattle.work_calendars.specs.Name.{IsName}
use Rattle.work_calendars.specs.Within.{IsWithinHours}
use Rattle.work_calendars.specs.declared.statuses.DayStatus.{DayStatus}
use Rattle.app_definition_records.specs.Rising.{AreRising}
use Rattle.app_definition_records.specs.declared.applications.Application.{Application}
use Rattle.app_definition_records.specs.declared.predecessors.Predecessor.{Predecessor}
use Rattle.plan_tables_content.specs.Content.{ByName}
use Rattle.plan_tables_content.specs.Facts.{IsCalendarRow, IsPredecessorRow, application_values, is_work, natural}
use Rattle.plan_tables_content.specs.Facts.{predecessor_values}
use Rattle.plan_tables_content.specs.Facts.IsCalendarRow.{Weekday, Date}

-- ---- applications

abbrev pub IsReadApplication : List ℕ → Option Application → Values → Type 0
IsReadApplication name None values = ⊥
IsReadApplication name (Some a) values = values ≡ application_values name a

pub application_named : (name : List ℕ) (a : Option Application) (v : Values) → IsReadApplication name a v
    → column v 0 ≡ Text name
application_named name None v is = absurd is
application_named name (Some a) v is = ap (λ (r : Values). column r 0) is

-- its calendar is a name
abbrev pub IsSoundApplication : List ℕ → Application → Type 0
IsSoundApplication name a = IfSome a.calendar IsName

-- ---- calendars

abbrev pub calendar_values : List ℕ → ℕ → ℕ → DayStatus → Values
calendar_values name kind day status = Text name ∷ natural kind ∷ natural day ∷ is_work status ∷ []

-- what a row of a calendar encodes: kind 0 is a weekday, 1 a date
abbrev pub RepresentsEntry : CalendarEntries → ℕ → ℕ → DayStatus → Type 0
RepresentsEntry c kind day status = ((kind ≡ 0) × (slice_index_or c.weekdays day None ≡ Some status))
    ⊎ ((kind ≡ 1) × (map.get c.dates day ≡ Some status))

pub calendar_named : (name : List ℕ) (c : CalendarEntries) (v : Values) → IsCalendarRow name c v
    → column v 0 ≡ Text name
calendar_named name c v (Weekday weekday status at is) = ap (λ (r : Values). column r 0) is
calendar_named name c v (Date day status at is) = ap (λ (r : Values). column r 0) is

-- a week has seven days, and the dates are days
pub record IsSoundCalendar (name : List ℕ) (c : CalendarEntries) : Type 0 where
  pub week : length c.weekdays ≡ 7
  pub days : (day : ℕ) (status : DayStatus) → map.get c.dates day ≡ Some status → IsDay day

-- ---- predecessors

-- a row of a predecessor that was read with this limit, or with none
abbrev pub IsReadPredecessor : List ℕ → ByName (Option ℕ) → Values → Type 0
IsReadPredecessor app limits values =
    (p : Predecessor) × (map.get limits p.name ≡ Some p.within) × (values ≡ predecessor_values app p)

abbrev pub limit_in : Option (Option ℕ) → Option ℕ
limit_in None = None
limit_in (Some within) = within

-- the predecessor of this name, with the limit that was read with it
abbrev pub predecessor_of : ByName (Option ℕ) → List ℕ → Predecessor
predecessor_of limits name = record { name = name; within = limit_in (map.get limits name) }

-- its name is a name, and its limit is of 1 to 9999 hours
pub record IsSoundPredecessor (p : Predecessor) : Type 0 where
  pub name : IsName p.name
  pub within : IfSome p.within IsWithinHours

-- the predecessors of each application are so, in byte order of their names, each once
pub record AreSoundPredecessors (app : List ℕ) (listed : List Predecessor) : Type 0 where
  pub rising : AreRising (λ (p : Predecessor). p.name) listed
  pub each : (p : Predecessor) → Contains listed p → IsSoundPredecessor p

pub predecessors_named : (app : List ℕ) (listed : List Predecessor) (v : Values) → IsPredecessorRow app listed v
    → column v 0 ≡ Text app
predecessors_named app listed v (p, has, is) = ap (λ (r : Values). column r 0) is

pub read_predecessor_named : (app : List ℕ) (limits : ByName (Option ℕ)) (v : Values) → IsReadPredecessor app limits v
    → column v 0 ≡ Text app
read_predecessor_named app limits v (p, got, is) = ap (λ (r : Values). column r 0) is
