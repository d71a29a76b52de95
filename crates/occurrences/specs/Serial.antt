-- Serials of occurrences.
use Rattle.std.specs.Prelude.{ℕ, ◌≤◌}
use Rattle.occurrences.specs.declared.serial.TheConstants.{GREATEST_SERIAL}

-- a number that an occurrence can have
abbrev pub IsSerial : ℕ → Type 0
IsSerial n = (1 ≤ n) × (n ≤ GREATEST_SERIAL)
