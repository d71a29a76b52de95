-- The limits that this crate's definitions cite, each with its value once more. The law `limits_hold` has this record
-- for its contract, so a limit that is changed is refused until its line here changes too.
--
-- A crate that has limits has such a page: in specs/Limits.antt a record `AreLimits` with a line `name : limit ≡
-- number` for each of them, and in src/limits.rt a public function `limits_hold` without arguments, whose one clause is
-- the record.
use Rattle.std.specs.Prelude.{◌≡◌}
use Rattle.work_calendars.specs.Day.{first_day, last_day, last_planning_day, last_kept_day}
use Rattle.work_calendars.specs.Minute.{minutes_per_day}
use Rattle.work_calendars.specs.declared.names.TheConstants.{LONGEST_NAME, LONGEST_SHORT_NAME}
use Rattle.work_calendars.specs.declared.within.TheConstants.{MAX_WITHIN}

pub record AreLimits : Type 0 where
  -- 1972-01-01
  pub first : first_day ≡ 730
  -- 2071-12-31
  pub last : last_day ≡ 37254
  -- 2065-12-31
  pub last_planning : last_planning_day ≡ 35063
  -- 2068-12-31
  pub last_kept : last_kept_day ≡ 36159
  -- 24 hours: the last minute is 1439
  pub minutes : minutes_per_day ≡ 1440
  -- characters of a name, and of a short name
  pub name : LONGEST_NAME ≡ 16
  pub short_name : LONGEST_SHORT_NAME ≡ 8
  -- hours of a limit on predecessors
  pub within : MAX_WITHIN ≡ 9999
