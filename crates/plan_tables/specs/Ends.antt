-- Rows of history that are looked up by serial.
use Rattle.std.specs.Prelude.{◌≡◌, ℕ, List, Contains}
use Rattle.occurrences.specs.declared.row.Row.{Row}

-- one of the rows has the serial
pub record HasSerial (rows : List Row) (serial : ℕ) : Type 0 where
  pub row : Row
  pub among : Contains rows row
  pub same : row.serial ≡ serial
