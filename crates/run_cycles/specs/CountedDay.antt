-- Counted days: the work days that offsets name where the work days of an interval count alone. `work` is the test for
-- work days.
use Rattle.std.specs.Prelude.{◌≡◌, ℕ, zero, suc, ◌+◌, ◌-◌, ◌%◌, ◌≤◌, Bool, cond, IsTrue, Option, Some, None}
use Rattle.plan_periods.specs.declared.periods.Period.{Period}
use Rattle.plan_periods.specs.declared.periods.Period.TheVariants.{Work}
use Rattle.plan_periods.specs.Interval.{IsInterval, HoldsDay}
use Rattle.run_cycles.specs.Offset.{Offset, FromFirst, FromLast}

-- how many of the n days from `first` on are work days
unfoldable pub work_days_among : (ℕ → Bool) → ℕ → ℕ → ℕ
work_days_among work first zero = 0
work_days_among work first (suc n) = work_days_among work first n + cond (work (first + n)) 1 0

-- how many work days there are from one day to another, both included
abbrev pub work_days_from_to : (ℕ → Bool) → ℕ → ℕ → ℕ
work_days_from_to work first last = work_days_among work first (last + 1 - first)

-- d is the work day at the offset of the interval from `first` to a last day, or with none: the k-th work day from its
-- first day on, or the k-th back from its last, where there is a last
abbrev pub IsWorkDayAt : (ℕ → Bool) → Offset → ℕ → Option ℕ → ℕ → Type 0
IsWorkDayAt work (FromFirst k) first end d =
    IsTrue (work d) × HoldsDay first end d × (work_days_from_to work first d ≡ k)
IsWorkDayAt work (FromLast k) first (Some last) d =
    IsTrue (work d) × HoldsDay first (Some last) d × (work_days_from_to work d last ≡ k)
IsWorkDayAt work (FromLast k) first None d = ⊥

-- a day has the place of the offset among intervals of n work days, where c work days come before it from the origin on
abbrev pub HasPlace : Offset → ℕ → ℕ → Type 0
HasPlace (FromFirst k) n c = (1 ≤ k) × (k ≤ n) × (c % n + 1 ≡ k)
HasPlace (FromLast k) n c = (1 ≤ k) × (k ≤ n) × (c % n + k ≡ n)

-- d is the work day at the offset of some interval of the period
abbrev pub IsCountedInInterval : Period → Offset → (ℕ → Bool) → ℕ → Type 0
IsCountedInInterval period k work d =
    (first : ℕ) × (end : Option ℕ) × IsInterval period first end × IsWorkDayAt work k first end d

-- the work day d is counted at the offset: in an interval of the period, or in a period of work days by its place from
-- the origin on
abbrev pub IsCountedDay : Period → Offset → (ℕ → Bool) → ℕ → Type 0
IsCountedDay (Work origin n) k work d =
    IsTrue (work d) × (origin ≤ d) × HasPlace k n (work_days_among work origin (d - origin))
IsCountedDay period k work d = IsCountedInInterval period k work d
