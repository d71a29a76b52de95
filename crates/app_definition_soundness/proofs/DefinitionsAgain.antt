-- Records that some definition is made of are found again where they are only known to be: a definition tells its own.
use Rattle.std.proofs.Common.{◌≡◌, ◌⊎◌, ℕ, ◌+◌, ◌<◌, ◌≤◌, List, Option, None, Some, arith, inl, inr, length, refl}
use Rattle.std.proofs.Math.Logic.{∥∥₁_elim, ∥∥₁_map}
use Rattle.std.proofs.Props.{props}
use Rattle.std.specs.Prelude.{IfSome, IsSome}
use Rattle.std.specs.Cmp.Lexicographic.{slice_cmp}
use Rattle.std.specs.Ordering.{nat_cmp}
use Rattle.std.specs.FinMap as map
use Rattle.std.specs.List.{slice_index_or}
use Rattle.work_calendars.specs.Calendar.{CalendarEntries}
use Rattle.work_calendars.specs.Day.{IsDay, last_day}
use Rattle.work_calendars.specs.Name.{IsName}
use Rattle.work_calendars.specs.Within.{IsWithinHours}
use Rattle.work_calendars.specs.declared.statuses.DayStatus.{DayStatus}
use Rattle.plan_periods.specs.Period.{IsSoundPeriod}
use Rattle.plan_periods.specs.declared.periods.Period.{Period}
use Rattle.plan_periods.specs.declared.periods.Period.TheVariants.{All as AllDays, Work, Listed}
use Rattle.run_cycles.specs.Offset.{FromFirst, FromLast, IsInReach, Offset}
use Rattle.run_cycles.specs.declared.cycles.CycleType.{CycleType}
use Rattle.run_cycles.specs.declared.cycles.CycleType.TheVariants.{Normal, Negative}
use Rattle.run_cycles.specs.declared.cycles.RunCycle.{RunCycle}
use Rattle.app_definition_records.specs.Applications.{FitsApplication, IsApplicationOf}
use Rattle.app_definition_records.specs.Calendars.{FitsCalendar, IsCalendarOf}
use Rattle.app_definition_records.specs.CycleRecords.{AreRunCyclesOf, FitsRunCycle}
use Rattle.app_definition_records.specs.FieldCounts.{HasApplicationFields, HasCalendarFields, HasCycleFields}
use Rattle.app_definition_records.specs.FieldCounts.{HasPeriodFields, HasPredecessorFields}
use Rattle.app_definition_records.specs.Periods.{FitsPeriod, IsPeriodOf}
use Rattle.app_definition_records.specs.Predecessors.{ArePredecessorsOf, FitsPredecessors}
use Rattle.app_definition_records.specs.Records.{Record, Records}
use Rattle.app_definition_records.specs.Rising.{AreRising}
use Rattle.app_definition_records.specs.declared.applications.Application.{Application}
use Rattle.app_definition_records.specs.declared.columns.TheConstants.{LIMITED_PREDECESSOR_FIELDS}
use Rattle.app_definition_records.specs.declared.predecessors.Predecessor.{Predecessor}
use Rattle.app_definitions.specs.declared.definitions.Definitions.{Definitions}
use Rattle.planner_machine.specs.Sound.{AreDefinable, AreDefinitions}
use Rattle.app_definition_soundness.specs.Given.{IsGiven}
use Rattle.app_definition_soundness.specs.Values.{AreCycleValues, ArePredecessorValues, HasDaysInRange, HasDeadline}
use Rattle.app_definition_soundness.specs.Values.{IsApplicationValue, IsCycleValue}
use Rattle.app_definition_soundness.specs.Values.{IsPeriodValue, ListsDate, ListsWeekday}
use Rattle.app_definition_soundness.proofs.CalendarRecords.{calendar_given, calendar_value}
use Rattle.app_definition_soundness.proofs.CycleRecords.{cycles_given, cycles_value}
use Rattle.app_definition_soundness.proofs.DefinedLemmas.{calendar_days, calendar_week, cycles_rise, period_sound}
use Rattle.app_definition_soundness.proofs.GivenLemmas.{definable_from, definable_to}
use Rattle.app_definition_soundness.proofs.PeriodRecords.{period_given, period_value}
use Rattle.app_definition_soundness.proofs.RecordLemmas.{begun}
use Rattle.app_definition_soundness.proofs.Searches.{decided, if_some_prop, search_below}
use Rattle.app_definition_soundness.proofs.SimpleLemmas.{application_given, application_value, predecessors_given}
use Rattle.app_definition_soundness.proofs.SimpleLemmas.{predecessors_value}

pub name_prop : (name : List ℕ) → IsProp (IsName name)
name_prop name = hlevel props

number_prop : (m n : ℕ) → IsProp (m ≡ n)
number_prop m n = hlevel props

hours_prop : (hours : ℕ) → IsProp (IsWithinHours hours)
hours_prop hours = hlevel props

day_prop : (day : ℕ) → IsProp (IsDay day)
day_prop day = hlevel props

pub limit_prop : (o : Option ℕ) → IsProp (IfSome o IsWithinHours)
limit_prop = if_some_prop IsWithinHours hours_prop

end_prop : (o : Option ℕ) → IsProp (IfSome o IsDay)
end_prop = if_some_prop IsDay day_prop

named_prop : (o : Option (List ℕ)) → IsProp (IfSome o IsName)
named_prop = if_some_prop IsName name_prop

-- applications

application_prop : (name : List ℕ) (a : Application) → IsProp (IsApplicationValue name a)
application_prop name a = hlevel (props, named_prop)

application_again : (name : List ℕ) (a : Application)
    → ∥ IsGiven HasApplicationFields FitsApplication IsApplicationOf name a ∥₁
    → IsGiven HasApplicationFields FitsApplication IsApplicationOf name a
application_again name a some =
    application_given name a (∥∥₁_elim some (application_prop name a) (application_value name a))

-- predecessors

predecessors_prop : (name : List ℕ) (listed : List Predecessor) → IsProp (ArePredecessorValues name listed)
predecessors_prop name listed = hlevel (props, limit_prop)

rising_prop : {X : Type 0} (name_of : X → List ℕ) (xs : List X) → IsProp (AreRising name_of xs)
rising_prop name_of xs = hlevel props

predecessors_again : (name : List ℕ) (listed : List Predecessor)
    → ∥ IsGiven HasPredecessorFields FitsPredecessors ArePredecessorsOf name listed ∥₁
    → IsGiven HasPredecessorFields FitsPredecessors ArePredecessorsOf name listed
predecessors_again name listed some =
    predecessors_given name listed
    (∥∥₁_elim some (rising_prop (λ (p : Predecessor). p.name) listed) (λ is.
    (begun name HasPredecessorFields LIMITED_PREDECESSOR_FIELDS (inr refl) FitsPredecessors ArePredecessorsOf listed
    is).made.rising))
    (∥∥₁_elim some (predecessors_prop name listed) (predecessors_value name listed))

-- run cycles

reach_prop : (offset : Offset) → IsProp (IsInReach offset)
reach_prop (FromFirst k) = hlevel props
reach_prop (FromLast k) = hlevel props

deadline_prop : (kind : CycleType) → IsProp (HasDeadline kind)
deadline_prop (Normal deadline) = hlevel props
deadline_prop (Negative (Some deadline)) = hlevel props
deadline_prop (Negative None) = hlevel props

cycle_prop : (cycle : RunCycle) → IsProp (IsCycleValue cycle)
cycle_prop cycle = hlevel (props, deadline_prop, reach_prop, end_prop)

cycles_prop : (name : List ℕ) (cycles : List RunCycle) → IsProp (AreCycleValues name cycles)
cycles_prop name cycles = hlevel (props, cycle_prop)

cycles_again : (name : List ℕ) (cycles : List RunCycle)
    → ∥ IsGiven HasCycleFields FitsRunCycle AreRunCyclesOf name cycles ∥₁
    → IsGiven HasCycleFields FitsRunCycle AreRunCyclesOf name cycles
cycles_again name cycles some =
    let values = ∥∥₁_elim some (cycles_prop name cycles) (cycles_value name cycles) in
    cycles_given name cycles
    (∥∥₁_elim some (rising_prop (λ (cycle : RunCycle). cycle.name) cycles) (cycles_rise name cycles))
    values.cycles values.named values.some

-- periods

sound_prop : (p : Period) → IsProp (IsSoundPeriod p)
sound_prop (AllDays origin interval) = hlevel props
sound_prop (Work origin interval) = hlevel props
sound_prop (Listed entries) =
    let ends : (o : Option ℕ) (origin : ℕ) → IsProp (IfSome o (λ end. origin ≤ end)) =
    λ o origin. if_some_prop (λ end. origin ≤ end) (λ end. hlevel props) o in
    hlevel (props, ends)

days_prop : (p : Period) → IsProp (HasDaysInRange p)
days_prop (AllDays origin interval) = hlevel props
days_prop (Work origin interval) = hlevel props
days_prop (Listed entries) = hlevel (props, end_prop)

period_prop : (name : List ℕ) (p : Period) → IsProp (IsPeriodValue name p)
period_prop name p = hlevel (props, days_prop)

period_again : (name : List ℕ) (p : Period) → ∥ IsGiven HasPeriodFields FitsPeriod IsPeriodOf name p ∥₁
    → IsGiven HasPeriodFields FitsPeriod IsPeriodOf name p
period_again name p some =
    period_given name p (∥∥₁_elim some (sound_prop p) (period_sound name p))
    (∥∥₁_elim some (period_prop name p) (period_value name p))

-- calendars

is_there : {X : Type 0} (o : Option X) → IsSome o ⊎ (IsSome o → ⊥)
is_there None = inr (λ some. cc)
is_there (Some x) = inl refl

some_day : (c : CalendarEntries) (d : ℕ) (o : Option DayStatus) → map.get c.dates d ≡ o
    → ((status : DayStatus) → o ≡ Some status → IsDay d) → IsSome o → IsDay d
some_day c d None is days some = cc
some_day c d (Some status) is days some = days status refl

module _ (c : CalendarEntries) where
  abbrev Weekday : ℕ → Type 0
  Weekday k = IsSome (slice_index_or c.weekdays k None)

  abbrev Date : ℕ → Type 0
  Date d = IsSome (map.get c.dates d)

  dated : ((d : ℕ) → Date d → IsDay d) → (ListsWeekday c → ⊥) → ListsWeekday c ⊎ ListsDate c
      → (d : ℕ) × (d < last_day + 1) × Date d
  dated days none (inl weekday) = absurd (none weekday)
  dated days none (inr (d, is)) = let in_range = days d is in (d, omega (arith, in_range.1), is)

  date : (d : ℕ) × (d < last_day + 1) × Date d → ListsDate c
  date (d, lt, is) = (d, is)

  entry_again : ((d : ℕ) → Date d → IsDay d) → ∥ ListsWeekday c ⊎ ListsDate c ∥₁ → ListsWeekday c ⊎ ListsDate c
  entry_again days some = elim (search_below Weekday (λ k. is_there (slice_index_or c.weekdays k None)) 7) [
    | inl weekday ↦ inl weekday
    | inr none ↦ inr (date (decided (search_below Date (λ d. is_there (map.get c.dates d)) (last_day + 1))
        (∥∥₁_map some (dated days none))))
  ]

calendar_again : (name : List ℕ) (c : CalendarEntries) → ∥ IsGiven HasCalendarFields FitsCalendar IsCalendarOf name c ∥₁
    → IsGiven HasCalendarFields FitsCalendar IsCalendarOf name c
calendar_again name c some =
    let week = ∥∥₁_elim some (number_prop (length c.weekdays) 7) (calendar_week name c) in
    let days : (d : ℕ) → IsSome (map.get c.dates d) → IsDay d = λ d is.
    ∥∥₁_elim some (day_prop d) (λ given. some_day c d (map.get c.dates d) refl (calendar_days name c given d) is) in
    calendar_given c name week days (record {
      named = ∥∥₁_elim some (name_prop name) (λ given. (calendar_value c name given).named);
      some = entry_again c days (∥∥₁_map some (λ given. (calendar_value c name given).some));
    })

-- all kinds

module _ {D : Type 0} (HasFields : ℕ → Type 0) (Fits : Records → Record → Type 0) (IsMadeOf : D → Records → Type 0)
    (again : (name : List ℕ) (d : D) → ∥ IsGiven HasFields Fits IsMadeOf name d ∥₁ → IsGiven HasFields Fits IsMadeOf name d)
    (definitions : map.FinMap (slice_cmp nat_cmp) D) where
  definable_again : ∥ AreDefinable HasFields Fits IsMadeOf (map.get definitions) ∥₁
      → AreDefinable HasFields Fits IsMadeOf (map.get definitions)
  definable_again some = definable_to HasFields Fits IsMadeOf definitions (λ name d is.
      again name d (∥∥₁_map some (λ are. definable_from HasFields Fits IsMadeOf definitions are name d is)))

pub definitions_again : (all : Definitions) → ∥ AreDefinitions all ∥₁ → AreDefinitions all
definitions_again all some = record {
  applications = definable_again HasApplicationFields FitsApplication IsApplicationOf application_again all.applications
      (∥∥₁_map some (λ (are : AreDefinitions all). are.applications));
  calendars = definable_again HasCalendarFields FitsCalendar IsCalendarOf calendar_again all.calendars
      (∥∥₁_map some (λ (are : AreDefinitions all). are.calendars));
  periods = definable_again HasPeriodFields FitsPeriod IsPeriodOf period_again all.periods
      (∥∥₁_map some (λ (are : AreDefinitions all). are.periods));
  predecessors = definable_again HasPredecessorFields FitsPredecessors ArePredecessorsOf predecessors_again
      all.predecessors (∥∥₁_map some (λ (are : AreDefinitions all). are.predecessors));
  run_cycles = definable_again HasCycleFields FitsRunCycle AreRunCyclesOf cycles_again all.run_cycles
      (∥∥₁_map some (λ (are : AreDefinitions all). are.run_cycles));
  default_calendar = ∥∥₁_elim some (name_prop all.options.default_calendar)
      (λ (are : AreDefinitions all). are.default_calendar);
}
