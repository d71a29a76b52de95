-- Rows of an application in a stretch of time.
use Rattle.std.specs.Prelude.{◌≡◌, ℕ, ◌≤◌, List, Option}
use Rattle.occurrences.specs.declared.row.Row.{Row}
use Rattle.external_dependencies.specs.Touch.{IsWithin}

-- of the application, and arriving from the first moment to the last, or without end
pub record ArrivesBetween (app : List ℕ) (first : ℕ) (last : Option ℕ) (row : Row) : Type 0 where
  pub of_app : row.key.app ≡ app
  pub begun : first ≤ row.key.ia
  pub within : IsWithin last row.key.ia
