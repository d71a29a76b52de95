-- The intervals of a period, each by its first day and its last day, which is None where it is open.
use Rattle.std.specs.Prelude.{◌≡◌, ℕ, ◌+◌, ◌-◌, ◌*◌, ◌≤◌, Option, Some, None, slice_get, IfSome}
use Rattle.work_calendars.specs.Day.{last_day}
use Rattle.plan_periods.specs.Period.{Entry}
use Rattle.plan_periods.specs.declared.periods.Period.{Period}
use Rattle.plan_periods.specs.declared.periods.Period.TheVariants.{All as AllDays, Work, Listed}

-- the last day of a listed interval: its own end, or else the day before the next origin, or else none
abbrev pub last_of_entry : Option ℕ → Option Entry → Option ℕ
last_of_entry (Some end) _ = Some end
last_of_entry None (Some next) = Some (next.0 - 1)
last_of_entry None None = None

-- the period has this interval. Intervals of days that would end after the last day of all are left out, and a period
-- of work days has none of this kind.
abbrev pub IsInterval : Period → ℕ → Option ℕ → Type 0
IsInterval (AllDays origin n) first last =
    (j : ℕ) × (first ≡ origin + j * n) × (last ≡ Some (first + n - 1)) × (first + n - 1 ≤ last_day)
IsInterval (Work _ _) first last = ⊥
IsInterval (Listed entries) first last =
    (i : ℕ) × (end : Option ℕ)
    × (slice_get entries i ≡ Some (first, end))
    × (last ≡ last_of_entry end (slice_get entries (i + 1)))

-- the day lies in the interval
abbrev pub HoldsDay : ℕ → Option ℕ → ℕ → Type 0
HoldsDay first last d = (first ≤ d) × IfSome last (λ end. d ≤ end)

-- some day of the range lies in the interval
abbrev pub MeetsRange : ℕ → Option ℕ → ℕ → ℕ → Type 0
MeetsRange first last from to = (d : ℕ) × HoldsDay first last d × (from ≤ d) × (d ≤ to)
