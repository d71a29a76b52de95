-- The limits of periods, in figures. A limit that changes is refused until this page says the same.
use Rattle.std.specs.Prelude.{◌≡◌, refl}
use Rattle.plan_periods.specs.declared.periods.TheConstants.{MAX_INTERVAL}

-- days, or work days, of an interval
pub greatest_interval : MAX_INTERVAL ≡ 1999
greatest_interval = refl
