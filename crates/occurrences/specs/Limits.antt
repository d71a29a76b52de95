-- The limits that this crate's definitions cite, each with its value once more. The law `limits_hold` has this record
-- for its contract, so a limit that is changed is refused until its line here changes too.
use Rattle.std.specs.Prelude.{◌≡◌}
use Rattle.occurrences.specs.declared.serial.TheConstants.{GREATEST_SERIAL}

pub record AreLimits : Type 0 where
  pub serial : GREATEST_SERIAL ≡ 999999999
