-- Named occurrences: the days and times at which an application's run cycles name it, with run cycle and deadline.
use Rattle.std.specs.Prelude.{◌≡◌, ◌≢◌, ℕ, ◌+◌, ◌<◌, ◌≤◌, ◌⊎◌, ◌↔◌, Bool, IsFalse, List, IsSomeAnd, Any, All}
use Rattle.std.specs.Prelude.{AllPairs, Contains}
use Rattle.std.specs.Ordering.{nat_cmp, is_gt}
use Rattle.std.specs.Cmp.Lexicographic.{slice_cmp}
use Rattle.std.specs.FinMap as map
use Rattle.work_calendars.specs.Moment.{moment_of}
use Rattle.plan_periods.specs.declared.periods.Period.{Period}
use Rattle.run_cycles.specs.declared.cycles.Deadline.{Deadline}
use Rattle.run_cycles.specs.declared.cycles.CycleType.{CycleType}
use Rattle.run_cycles.specs.declared.cycles.CycleType.TheVariants.{Normal, Negative}
use Rattle.run_cycles.specs.declared.cycles.RunCycle.{RunCycle}
use Rattle.run_cycles.specs.declared.named.Named.{Named}
use Rattle.run_cycles.specs.NamedDay.{NamesDay}

-- periods by name
abbrev pub PeriodMap : Type 0
PeriodMap = map.FinMap (slice_cmp nat_cmp) Period

-- a run cycle of type N, and its deadline
abbrev pub HasDeadline : CycleType → Deadline → Type 0
HasDeadline (Normal own) deadline = deadline ≡ own
HasDeadline (Negative _) deadline = ⊥

-- the run cycle is of type X
abbrev pub IsNegative : CycleType → Type 0
IsNegative (Normal _) = ⊥
IsNegative (Negative _) = Unit {0}

-- the run cycle is of type N
abbrev pub IsNormal : CycleType → Type 0
IsNormal (Normal _) = Unit {0}
IsNormal (Negative _) = ⊥

-- the moment of a deadline, for an occurrence of the day d
abbrev pub deadline_of : ℕ → Deadline → ℕ
deadline_of d deadline = moment_of (d + deadline.days) deadline.time

-- the name does not come after the other in byte order
abbrev pub IsNameAtMost : List ℕ → List ℕ → Type 0
IsNameAtMost a b = IsFalse (is_gt (slice_cmp nat_cmp a b))

-- the run cycle has this input arrival time, and its period is defined and gives it the day
abbrev pub NamesAt : PeriodMap → (ℕ → Bool) → ℕ → ℕ → RunCycle → Type 0
NamesAt periods work d t cycle =
    (cycle.ia ≡ t) × IsSomeAnd (map.get periods cycle.period) (λ period. NamesDay cycle period work d)

-- a run cycle of type N names the day and time
abbrev pub GivesAt : PeriodMap → (ℕ → Bool) → ℕ → ℕ → RunCycle → Type 0
GivesAt periods work d t cycle = IsNormal cycle.kind × NamesAt periods work d t cycle

-- a run cycle of type X names the day and time
abbrev pub TakesAt : PeriodMap → (ℕ → Bool) → ℕ → ℕ → RunCycle → Type 0
TakesAt periods work d t cycle = IsNegative cycle.kind × NamesAt periods work d t cycle

-- the run cycle gives the occurrence: it is of type N, names its day and time, and has its name and deadline
abbrev pub IsGivenBy : PeriodMap → (ℕ → Bool) → Named → RunCycle → Type 0
IsGivenBy periods work x cycle =
    ((deadline : Deadline) × HasDeadline cycle.kind deadline × (x.deadline ≡ deadline_of x.day deadline))
    × NamesAt periods work x.day x.time cycle
    × (x.run_cycle ≡ cycle.name)

-- the run cycles name the occurrence: one of type N gives it, none of those that name its day and time has a lesser
-- name, and none of type X names its day and time
pub record IsOccurrence (cycles : List RunCycle) (periods : PeriodMap) (work : ℕ → Bool) (x : Named) : Type 0 where
  pub given : Any (IsGivenBy periods work x) cycles
  pub least : All (λ cycle. GivesAt periods work x.day x.time cycle → IsNameAtMost x.run_cycle cycle.name) cycles
  pub kept : All (λ cycle. ¬ (TakesAt periods work x.day x.time cycle)) cycles

-- no two run cycles have one name
abbrev pub HaveOwnNames : List RunCycle → Type 0
HaveOwnNames cycles = AllPairs (λ a b. a.name ≢ b.name) cycles

-- the first is of an earlier day, or of an earlier time on one day
abbrev pub IsEarlier : Named → Named → Type 0
IsEarlier x y = (x.day < y.day) ⊎ ((x.day ≡ y.day) × (x.time < y.time))

-- the list has all that P holds of and nothing else, by day and time, none twice
pub record ListsInOrder (P : Named → Type 0) (list : List Named) : Type 0 where
  pub exactly : (x : Named) → Contains list x ↔ P x
  pub in_order : AllPairs IsEarlier list

-- the run cycles name the occurrence, and its day is one from `from` to `to`
abbrev pub IsOccurrenceBetween : List RunCycle → PeriodMap → (ℕ → Bool) → ℕ → ℕ → Named → Type 0
IsOccurrenceBetween cycles periods work from to x =
    (from ≤ x.day) × (x.day ≤ to) × IsOccurrence cycles periods work x

-- the list has the named occurrences of the days from `from` to `to`, by day and time, none twice
abbrev pub ListsOccurrences : List RunCycle → PeriodMap → (ℕ → Bool) → ℕ → ℕ → List Named → Type 0
ListsOccurrences cycles periods work from to list =
    ListsInOrder (IsOccurrenceBetween cycles periods work from to) list
