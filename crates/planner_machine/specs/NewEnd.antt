-- The new plan end that a number of days gives, counted from the day of the plan end on.
use Rattle.std.specs.Prelude.{◌≡◌, ℕ, ◌+◌, Bool, IsTrue}
use Rattle.work_calendars.specs.Day.{IsDay}
use Rattle.work_calendars.specs.Moment.{day_of_moment, minute_of_moment, moment_of}
use Rattle.work_calendars.specs.WorkDay.{work_days_before}
use Rattle.app_definitions.specs.declared.definitions.Definitions.{Definitions}
use Rattle.app_occurrences.specs.NamedOccurrences.{work_in}
use Rattle.planner_machine.specs.declared.counts.Count.{Count}
use Rattle.planner_machine.specs.declared.counts.Count.TheVariants.{AllDays, WorkDays}

-- the work days of the default calendar, and every day where it isn't defined
abbrev pub default_work : Definitions → ℕ → Bool
default_work all = work_in all all.options.default_calendar

-- x is the n-th work day from d on, d counted too: it and the work days before it are those before d and n more
pub record IsNthFrom (work : ℕ → Bool) (d n x : ℕ) : Type 0 where
  pub is_work : IsTrue (work x)
  pub place : work_days_before work x + 1 ≡ work_days_before work d + n

-- the new day: n days after d, or the day after the n-th work day from d on
abbrev pub IsNewDay : Definitions → ℕ → ℕ → Count → ℕ → Type 0
IsNewDay all d n AllDays day = day ≡ d + n
IsNewDay all d n WorkDays day = (x : ℕ) × IsNthFrom (default_work all) d n x × (day ≡ x + 1)

-- t is the new plan end: the new day, where that is a day, at the minute of the old one
pub record IsNewEnd (all : Definitions) (plan_end n : ℕ) (count : Count) (t : ℕ) : Type 0 where
  pub day : ℕ
  pub is_new : IsNewDay all (day_of_moment plan_end) n count day
  pub in_range : IsDay day
  pub end : t ≡ moment_of day (minute_of_moment plan_end)
