-- The limits of run cycles, in figures. A limit that changes is refused until this page says the same.
use Rattle.std.specs.Prelude.{◌≡◌, refl}
use Rattle.run_cycles.specs.declared.cycles.TheConstants.{MAX_DEADLINE_DAYS}
use Rattle.run_cycles.specs.declared.offsets.TheConstants.{MAX_OFFSET, MAX_OFFSETS}

-- days, or work days, from either end of an interval
pub greatest_offset : MAX_OFFSET ≡ 1999
greatest_offset = refl

-- of a run cycle
pub most_offsets : MAX_OFFSETS ≡ 64
most_offsets = refl

-- days from the input arrival date to the deadline
pub most_deadline_days : MAX_DEADLINE_DAYS ≡ 99
most_deadline_days = refl
