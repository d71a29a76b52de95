-- How the code of a walk keeps what is left: by the places of the period's intervals, from the next one on. For
-- private contracts only; Interval.antt defines the intervals of a period.
use Rattle.std.specs.Prelude.{◌≡◌, ℕ, ◌+◌, ◌-◌, ◌*◌, ◌/◌, ◌≤◌, ◌<◌, ◌&&◌, zero, suc, Bool, true, nat_le}
use Rattle.std.specs.Prelude.{Option, Some, None, List, [], ◌∷◌, length, drop, slice_get}
use Rattle.std.specs.List.{filter}
use Rattle.work_calendars.specs.Day.{last_day}
use Rattle.plan_periods.specs.Period.{Entry, IsIntervalLength, HasRisingOrigins}
use Rattle.plan_periods.specs.Interval.{last_of_entry}
use Rattle.plan_periods.specs.Walk.{days_of_range}
use Rattle.plan_periods.specs.declared.intervals.Interval.{Interval}
use Rattle.plan_periods.specs.declared.periods.Period.{Period}
use Rattle.plan_periods.specs.declared.periods.Period.TheVariants.{All as AllDays, Work, Listed}

-- the interval of n days from `first` on
abbrev pub step : ℕ → ℕ → Interval
step first n = record { first = first; last = Some (first + n - 1) }

-- intervals of n days one after another, the first from `first` on, so many of them
abbrev pub stepped : ℕ → ℕ → ℕ → List Interval
stepped first n zero = []
stepped first n (suc count) = step first n ∷ stepped (first + n) n count

-- the interval of an entry before the others
abbrev pub entry_interval : Entry → List Entry → Interval
entry_interval e rest = record { first = e.0; last = last_of_entry e.1 (slice_get rest 0) }

-- the intervals of the entries
abbrev pub listed : List Entry → List Interval
listed [] = []
listed (e ∷ rest) = entry_interval e rest ∷ listed rest

-- the interval ends on the day or later
abbrev pub ends_from : ℕ → Option ℕ → Bool
ends_from d (Some end) = nat_le d end
ends_from d None = true

-- the interval meets the days from `from` to `to`
abbrev pub meets_range : ℕ → ℕ → Interval → Bool
meets_range from to x = nat_le from to && nat_le x.first to && ends_from from x.last

-- the intervals from place `next` on that meet the range
abbrev pub met_from : List Entry → ℕ → ℕ → ℕ → List Interval
met_from entries from to next = filter (meets_range from to) (listed (drop next entries))

-- the first interval from place `next` on that meets the range, and the place after it, which is the end
-- where there is none
abbrev pub FindsNext : List Entry → ℕ → ℕ → ℕ → Option Interval → ℕ → Type 0
FindsNext entries from to next None after = (met_from entries from to next ≡ []) × (after ≡ length entries)
FindsNext entries from to next (Some x) after =
    (met_from entries from to next ≡ x ∷ met_from entries from to after) × (next < after)

-- what is left where the places from `next` to before `end` are still to be looked at
abbrev pub left_of : Period → ℕ → ℕ → ℕ → ℕ → List Interval
left_of (AllDays origin n) from to next end = stepped (origin + next * n) n (end - next)
left_of (Work _ _) from to next end = []
left_of (Listed entries) from to next end = met_from entries from to next

-- the interval at place j is there and meets the range
pub record MeetsAt (origin n from to j : ℕ) : Type 0 where
  pub exists : origin + j * n + n - 1 ≤ last_day
  pub begins : origin + j * n ≤ to
  pub ends : from ≤ origin + j * n + n - 1
  pub range : from ≤ to

-- the places from `start` to before `end` are those of the intervals of n days that meet the range
pub record StepsMeet (origin n from to start end : ℕ) : Type 0 where
  pub ordered : start ≤ end
  pub inside : (j : ℕ) → start ≤ j → j < end → MeetsAt origin n from to j
  pub outside : (j : ℕ) → MeetsAt origin n from to j → (start ≤ j) × (j < end)
  pub few : end - start ≤ days_of_range from to / n + 2

-- the places of a walk over this period and range
abbrev pub IsWalkState : Period → ℕ → ℕ → ℕ → ℕ → ℕ → Type 0
IsWalkState (AllDays origin n) from to start next end =
    IsIntervalLength n × (start ≤ next) × (next ≤ end) × StepsMeet origin n from to start end
IsWalkState (Work _ _) from to start next end = (start ≡ 0) × (next ≡ 0)
IsWalkState (Listed entries) from to start next end = (start ≡ 0) × (next ≤ length entries) × HasRisingOrigins entries
