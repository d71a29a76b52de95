-- Periods: what one consists of, its faults, and which are sound.
use Rattle.std.specs.Prelude.{◌≡◌, ℕ, ◌<◌, ◌≤◌, Option, Some, List, length, IfSome}
use Rattle.std.specs.List.{All, AllAdjacentBelow}
use Rattle.plan_periods.specs.declared.periods.TheConstants.{MAX_INTERVAL}
use Rattle.plan_periods.specs.declared.periods.Period.{Period}
use Rattle.plan_periods.specs.declared.periods.Period.TheVariants.{All as AllDays, Work, Listed}

-- an origin, and the end of its interval or none
abbrev pub Entry : Type 0
Entry = ℕ × Option ℕ

-- an interval has this many days, or work days
abbrev pub IsIntervalLength : ℕ → Type 0
IsIntervalLength n = (1 ≤ n) × (n ≤ MAX_INTERVAL)

-- the entry's end, if it has one, is its origin or later
abbrev pub EndsFromOrigin : Entry → Type 0
EndsFromOrigin e = IfSome e.1 (λ end. e.0 ≤ end)

-- the entry has an end, and that is before its origin
abbrev pub EndsBeforeOrigin : Entry → Type 0
EndsBeforeOrigin e = (end : ℕ) × (e.1 ≡ Some end) × (end < e.0)

-- each origin is later than the one before it
abbrev pub HasRisingOrigins : List Entry → Type 0
HasRisingOrigins entries = AllAdjacentBelow (λ e next. e.0 < next.0) entries (length entries)

-- there is an origin, the origins rise, and no end is before its origin
abbrev pub IsSoundList : List Entry → Type 0
IsSoundList entries = (0 < length entries) × All EndsFromOrigin entries × HasRisingOrigins entries

-- a period without a fault
abbrev pub IsSoundPeriod : Period → Type 0
IsSoundPeriod (AllDays _ n) = IsIntervalLength n
IsSoundPeriod (Work _ n) = IsIntervalLength n
IsSoundPeriod (Listed entries) = IsSoundList entries
