-- The line of a named occurrence.
use Rattle.std.specs.Prelude.{◌≡◌, ℕ, List, ◌∷◌, ◌++◌}
use Rattle.work_calendars.specs.Moment.{day_of_moment, minute_of_moment}
use Rattle.work_calendars.specs.Spelling.{SpellsDay, SpellsMinute}
use Rattle.run_cycles.specs.declared.named.Named.{Named}
use Rattle.plan_listings.specs.Line.{left_in}

-- date, input arrival time, run cycle left in 8 places, and the deadline's date and time, with one blank between two
pub record IsDaysLine (x : Named) (line : List ℕ) : Type 0 where
  pub date : List ℕ
  pub time : List ℕ
  pub deadline_date : List ℕ
  pub deadline_time : List ℕ
  pub spells_date : SpellsDay date x.day
  pub spells_time : SpellsMinute time x.time
  pub spells_deadline_date : SpellsDay deadline_date (day_of_moment x.deadline)
  pub spells_deadline_time : SpellsMinute deadline_time (minute_of_moment x.deadline)
  pub line_is :
      line ≡ date ++ 32 ∷ time ++ 32 ∷ left_in 8 x.run_cycle ++ 32 ∷ deadline_date ++ 32 ∷ deadline_time
