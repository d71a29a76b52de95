-- The limits that this crate's definitions cite, each with its value once more. The law `limits_hold` has this record
-- for its contract, so a limit that is changed is refused until its line here changes too.
use Rattle.std.specs.Prelude.{◌≡◌}
use Rattle.planner_machine.specs.declared.limits.TheConstants.{GREATEST_JOB, LONGEST_WINDOW, MOST_PLANNED_ROWS}

pub record AreLimits : Type 0 where
  pub rows : MOST_PLANNED_ROWS ≡ 200000
  pub window : LONGEST_WINDOW ≡ 1461
  pub job : GREATEST_JOB ≡ 999999999
