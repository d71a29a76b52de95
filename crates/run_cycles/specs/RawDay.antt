-- Raw days: the days that offsets name where all days of an interval count.
use Rattle.std.specs.Prelude.{◌≡◌, ℕ, ◌+◌, ◌≤◌, Option, Some, None, IfSome}
use Rattle.work_calendars.specs.Day.{IsDay}
use Rattle.plan_periods.specs.declared.periods.Period.{Period}
use Rattle.plan_periods.specs.Interval.{IsInterval}
use Rattle.run_cycles.specs.Offset.{Offset, FromFirst, FromLast}

-- x is the day at the offset of the interval from `first` to a last day, or with none: the k-th from its first day,
-- or the k-th from its last, where there is a last. An offset past the interval names nothing.
abbrev pub IsDayAt : Offset → ℕ → Option ℕ → ℕ → Type 0
IsDayAt (FromFirst k) first end x = (1 ≤ k) × (x + 1 ≡ first + k) × IfSome end (λ last. x ≤ last)
IsDayAt (FromLast k) first (Some last) x = (1 ≤ k) × (first ≤ x) × (x + k ≡ last + 1)
IsDayAt (FromLast k) first None x = ⊥

-- x is the day at the offset of some interval of the period
abbrev pub IsRawDay : Period → Offset → ℕ → Type 0
IsRawDay period k x =
    IsDay x × ((first : ℕ) × (end : Option ℕ) × IsInterval period first end × IsDayAt k first end x)
