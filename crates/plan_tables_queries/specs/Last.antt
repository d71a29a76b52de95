-- The row of history of an application that arrives last at a moment or before it.
use Rattle.std.specs.Prelude.{◌≡◌, ◌≤◌, ℕ, List, Option, Some, None}
use Rattle.occurrences.specs.declared.row.Row.{Row}

-- it is there, and no other row of the application arrives from it to the moment
pub record IsLast (history : ℕ → Option Row) (app : List ℕ) (moment : ℕ) (found : Row) : Type 0 where
  pub has : history found.serial ≡ Some found
  pub of : found.key.app ≡ app
  pub before : found.key.ia ≤ moment
  pub last : (serial : ℕ) (row : Row) → history serial ≡ Some row → row.key.app ≡ app → row.key.ia ≤ moment
      → row.key.ia ≤ found.key.ia
  pub alone : (serial : ℕ) (row : Row) → history serial ≡ Some row → row.key.app ≡ app
      → row.key.ia ≡ found.key.ia → row ≡ found

-- or none of them arrives by then
abbrev pub IsLastRow : (ℕ → Option Row) → List ℕ → ℕ → Option Row → Type 0
IsLastRow history app moment None =
    (serial : ℕ) (row : Row) → history serial ≡ Some row → row.key.app ≡ app → row.key.ia ≤ moment → ⊥
IsLastRow history app moment (Some found) = IsLast history app moment found
