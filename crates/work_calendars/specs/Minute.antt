-- Minutes of a day.
use Rattle.std.specs.Prelude.{ℕ, ◌<◌}
use Rattle.work_calendars.specs.declared.minutes.TheConstants.{MINUTES_PER_DAY}

abbrev pub minutes_per_day : ℕ
minutes_per_day = MINUTES_PER_DAY

-- a minute of the day, counted from 00.00 on
abbrev pub IsMinute : ℕ → Type 0
IsMinute m = m < minutes_per_day
