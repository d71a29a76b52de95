-- The rows of history of an application.
use Rattle.std.specs.Prelude.{◌≡◌, ◌↔◌, ℕ, List, Option, Some, Contains}
use Rattle.occurrences.specs.declared.row.Row.{Row}

-- exactly these
abbrev pub AreAllOf : (ℕ → Option Row) → List ℕ → List Row → Type 0
AreAllOf history app found = (row : Row)
    → Contains found row ↔ ((history row.serial ≡ Some row) × (row.key.app ≡ app))
