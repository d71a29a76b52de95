-- Active applications: their calendars and run cycles, and what these lack.
use Rattle.std.specs.Prelude.{◌≡◌, ◌≢◌, ℕ, IsTrue, List, [], Option, None, Some, unwrap_or, Any}
use Rattle.std.specs.Cmp.Lexicographic.{slice_cmp}
use Rattle.std.specs.FinMap as map
use Rattle.std.specs.Ordering.{nat_cmp}
use Rattle.std.specs.declared.cmp.Ordering.TheVariants.{Greater}
use Rattle.run_cycles.specs.declared.cycles.RunCycle.{RunCycle}
use Rattle.app_definition_records.specs.declared.applications.Application.{Application}
use Rattle.app_definitions.specs.declared.definitions.Definitions.{Definitions}

-- the application is defined, and active
abbrev pub IsActive : Definitions → List ℕ → Application → Type 0
IsActive all app a = (map.get all.applications app ≡ Some a) × IsTrue a.active

-- the name of the calendar that an application uses: the one that it names, or the default one
abbrev pub calendar_name : Definitions → Application → List ℕ
calendar_name all a = unwrap_or a.calendar all.options.default_calendar

-- the run cycles of an application, none where none are defined
abbrev pub cycles_of : Definitions → List ℕ → List RunCycle
cycles_of all app = unwrap_or (map.get all.run_cycles app) []

-- the application names a calendar that isn't defined, and it isn't the default calendar's name
abbrev pub LacksCalendar : Definitions → Application → Type 0
LacksCalendar all a =
    (name : List ℕ) × (a.calendar ≡ Some name) × (map.get all.calendars name ≡ None)
    × (name ≢ all.options.default_calendar)

-- one of the application's run cycles names a period that isn't defined
abbrev pub LacksPeriod : Definitions → List ℕ → Type 0
LacksPeriod all app = Any (λ cycle. map.get all.periods cycle.period ≡ None) (cycles_of all app)

-- the application is active, and names a calendar that isn't defined
abbrev pub HasNoCalendar : Definitions → List ℕ → Type 0
HasNoCalendar all app = (a : Application) × IsActive all app a × LacksCalendar all a

-- the application is active, and one of its run cycles names a period that isn't defined
abbrev pub HasNoPeriod : Definitions → List ℕ → Type 0
HasNoPeriod all app = (a : Application) × IsActive all app a × LacksPeriod all app

-- of the names that it holds for, the least in byte order, and none where it holds for no name
abbrev pub IsLeastName : (List ℕ → Type 0) → Option (List ℕ) → Type 0
IsLeastName Holds None = (app : List ℕ) → ¬ (Holds app)
IsLeastName Holds (Some app) = Holds app × ((other : List ℕ) → Holds other → slice_cmp nat_cmp app other ≢ Greater)
