-- Days that a run cycle names in a window, found by jumps along its period: what contracts see of the iterator, and
-- what it looks at.
use Rattle.std.specs.Prelude.{◌≡◌, ℕ, ◌+◌, ◌*◌, ◌<◌, ◌≤◌, ◌⊎◌, ◌↔◌, Bool, List, AllPairs, Contains}
use Rattle.work_calendars.specs.Day.{first_day, last_day}
use Rattle.work_calendars.specs.WorkDay.{IsNextWorkDay, IsPreviousWorkDay, HasNoWorkDayAfter, HasNoWorkDayBefore}
use Rattle.plan_periods.specs.declared.periods.Period.{Period}
use Rattle.plan_periods.specs.declared.periods.Period.TheVariants.{All as AllDays, Work, Listed}
use Rattle.plan_periods.specs.Walk.{VisitsFew}
use Rattle.run_cycles.specs.declared.cycles.RunCycle.{RunCycle}
use Rattle.run_cycles.specs.declared.rules.Rule.{Rule}
use Rattle.run_cycles.specs.declared.rules.Rule.TheVariants.{WorkDaysOnly, Before, After, Same, Skip}
use Rattle.run_cycles.specs.NamedDay.{NamesDay}

-- the days that are still to come, how many intervals the walk visited, and how many questions the index was asked
pub record Jump : Type 0 where
  pub left : List ℕ
  pub visited : ℕ
  pub asked : ℕ

-- the list has the days from `from` to `to` that the run cycle, with this period, names, rising, each once
pub record ListsNamedDays (cycle : RunCycle) (period : Period) (work : ℕ →
    Bool) (from to : ℕ) (list : List ℕ) : Type 0 where
  pub exactly : (d : ℕ) → Contains list d ↔ ((from ≤ d) × (d ≤ to) × NamesDay cycle period work d)
  pub rising : AllPairs (λ a b. a < b) list

-- the day before the next work day after d, or the last day of all where there is none
abbrev pub IsBeforeNextWork : (ℕ → Bool) → ℕ → ℕ → Type 0
IsBeforeNextWork work d e = IsNextWorkDay work d (e + 1) ⊎ (HasNoWorkDayAfter work d × (e ≡ last_day))

-- the day after the last work day before d, or the first day of all where there is none
abbrev pub IsAfterPreviousWork : (ℕ → Bool) → ℕ → ℕ → Type 0
IsAfterPreviousWork work d e =
    ((b : ℕ) × IsPreviousWorkDay work d b × (e ≡ b + 1)) ⊎ (HasNoWorkDayBefore work d × (e ≡ first_day))

-- the raw range of a window, from `low` to `high`: where the raw days lie that the rule may bring into the window
abbrev pub IsRawRange : Rule → (ℕ → Bool) → ℕ → ℕ → ℕ → ℕ → Type 0
IsRawRange Before work from to low high = (low ≡ from) × IsBeforeNextWork work to high
IsRawRange After work from to low high = IsAfterPreviousWork work from low × (high ≡ to)
IsRawRange WorkDaysOnly work from to low high = (low ≡ from) × (high ≡ to)
IsRawRange Same work from to low high = (low ≡ from) × (high ≡ to)
IsRawRange Skip work from to low high = (low ≡ from) × (high ≡ to)

-- one walk over the raw range visits so many intervals; a period of work days is not walked
abbrev pub WalksRawRange : Period → Rule → (ℕ → Bool) → ℕ → ℕ → ℕ → Type 0
WalksRawRange (Work _ _) rule work from to visited = visited ≡ 0
WalksRawRange period rule work from to visited =
    (low : ℕ) × (high : ℕ) × IsRawRange rule work from to low high × VisitsFew period low high visited

-- how many questions are enough for so many intervals and offsets; in a period of work days no number is promised
abbrev pub AsksFew : Period → ℕ → ℕ → ℕ → Type 0
AsksFew (AllDays _ _) visited offsets asked = asked ≤ visited * (2 * offsets + 2) + 2
AsksFew (Work _ _) visited offsets asked = Unit {0}
AsksFew (Listed _) visited offsets asked = asked ≤ visited * (2 * offsets + 2) + 2

-- giving a day visits no interval and asks nothing
abbrev pub KeepsCounts : Jump → Jump → Type 0
KeepsCounts old new = (new.visited ≡ old.visited) × (new.asked ≡ old.asked)
