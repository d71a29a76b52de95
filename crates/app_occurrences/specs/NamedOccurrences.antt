-- The occurrences that the definitions name for an application, and the indexes of work days that they are found with.
use Rattle.std.specs.Prelude.{◌≡◌, ◌≢◌, ℕ, Bool, List, Some, IsSome, unwrap_or, All}
use Rattle.std.specs.Cmp.Lexicographic.{slice_cmp}
use Rattle.std.specs.FinMap as map
use Rattle.std.specs.Ordering.{nat_cmp}
use Rattle.work_calendars.specs.Calendar.{is_work_day, no_entries}
use Rattle.work_calendars.specs.WorkIndex.{is_work_in}
use Rattle.run_cycles.specs.Occurrence.{ListsOccurrences, PeriodMap}
use Rattle.run_cycles.specs.declared.cycles.RunCycle.{RunCycle}
use Rattle.run_cycles.specs.declared.named.Named.{Named}
use Rattle.app_occurrences.specs.Active.{calendar_name, cycles_of}
use Rattle.app_definition_records.specs.declared.applications.Application.{Application}
use Rattle.app_definitions.specs.declared.definitions.Definitions.{Definitions}

-- the work days of the calendar of that name, and every day where it isn't defined
abbrev pub work_in : Definitions → List ℕ → ℕ → Bool
work_in all name = is_work_day (unwrap_or (map.get all.calendars name) no_entries)

-- the work days of an application
abbrev pub work_of : Definitions → Application → ℕ → Bool
work_of all a = work_in all (calendar_name all a)

-- the list has the occurrences that an application's run cycles name from one day to another, both counted
abbrev pub ListsNamed : Definitions → List ℕ → Application → ℕ → ℕ → List Named → Type 0
ListsNamed all app a from to list =
    ListsOccurrences (cycles_of all app) all.periods (work_of all a) from to list

-- both maps have the same periods under the names that the run cycles name
abbrev pub AgreeOn : PeriodMap → PeriodMap → List RunCycle → Type 0
AgreeOn all some cycles = All (λ cycle. map.get some cycle.period ≡ map.get all cycle.period) cycles

-- indexes of work days by the names of calendars
abbrev pub IndexMap : Type 0
IndexMap = map.FinMap (slice_cmp nat_cmp) (List Bool)

-- each index stands for the work days of the calendar of its name
abbrev pub AreIndexesOf : Definitions → IndexMap → Type 0
AreIndexesOf all indexes =
    (name : List ℕ) (index : List Bool) → map.get indexes name ≡ Some index → (d : ℕ)
    → is_work_in index d ≡ work_in all name d

-- an index of that name is held after it, and under all other names what was held before
abbrev pub HoldsAlso : IndexMap → IndexMap → List ℕ → Type 0
HoldsAlso old new name = IsSome (map.get new name)
    × ((other : List ℕ) → other ≢ name → map.get new other ≡ map.get old other)
