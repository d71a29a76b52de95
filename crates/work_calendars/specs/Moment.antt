-- Moments: a minute of a day, as the minutes since 1970-01-01 00.00.
use Rattle.std.specs.Prelude.{ℕ, ◌+◌, ◌*◌, ◌/◌, ◌%◌}
use Rattle.work_calendars.specs.Day.{IsDay}
use Rattle.work_calendars.specs.Minute.{minutes_per_day}

-- the moment of a day and a minute
abbrev pub moment_of : ℕ → ℕ → ℕ
moment_of day minute = day * minutes_per_day + minute

abbrev pub day_of_moment : ℕ → ℕ
day_of_moment m = m / minutes_per_day

abbrev pub minute_of_moment : ℕ → ℕ
minute_of_moment m = m % minutes_per_day

-- a moment of a day in the range that calendars know
abbrev pub IsMoment : ℕ → Type 0
IsMoment m = IsDay (day_of_moment m)
