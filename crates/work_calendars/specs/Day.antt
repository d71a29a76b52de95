-- Days, as day numbers: days since 1970-01-01.
use Rattle.std.specs.Prelude.{ℕ, ◌+◌, ◌%◌, ◌≤◌, Bool, ◌&&◌, nat_le}
use Rattle.work_calendars.specs.declared.days.TheConstants.{FIRST_NUMBER, LAST_KEPT_NUMBER, LAST_NUMBER, LAST_PLANNING_NUMBER}

-- the first day that calendars know
abbrev pub first_day : ℕ
first_day = FIRST_NUMBER

-- the last day that calendars know
abbrev pub last_day : ℕ
last_day = LAST_NUMBER

-- the last day that a statement plans
abbrev pub last_planning_day : ℕ
last_planning_day = LAST_PLANNING_NUMBER

-- the last day that a plan may have: one that was made earlier may reach so far
abbrev pub last_kept_day : ℕ
last_kept_day = LAST_KEPT_NUMBER

-- a day of the range that calendars know
abbrev pub IsDay : ℕ → Type 0
IsDay d = (first_day ≤ d) × (d ≤ last_day)

-- the same as a test
abbrev pub is_day : ℕ → Bool
is_day d = nat_le first_day d && nat_le d last_day

-- the weekday of a day, Monday 0 and Sunday 6: day 0 was a Thursday
abbrev pub weekday_of_day : ℕ → ℕ
weekday_of_day d = (d + 3) % 7
