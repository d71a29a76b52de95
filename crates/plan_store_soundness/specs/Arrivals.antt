-- Rows and the keys of deletions.
use Rattle.std.specs.Prelude.{◌≡◌, ℕ, Bool, true, false, List, Contains, Some}
use Rattle.occurrences.specs.declared.key.Key.{Key}
use Rattle.occurrences.specs.declared.place.Deletion.{Deletion}
use Rattle.occurrences.specs.declared.place.Reason.{Reason}
use Rattle.occurrences.specs.declared.place.Reason.TheVariants.{Operator, Withdrawn, Plan}
use Rattle.occurrences.specs.declared.row.Row.{Row}
use Rattle.external_dependencies.specs.declared.rows.PlacedRow.{PlacedRow}
use Rattle.planner_machine.specs.Content.{Sets, IsOnlyAt}
use Rattle.planner_machine.specs.Fate.{IsGenerated}
use Rattle.planner_machine.specs.Sound.{ArrivesIn}
use Rattle.planner_machine.specs.declared.content.Bounds.{Bounds}

-- one of these that an operator deleted has the key
abbrev pub IsOperatorKey : List Deletion → Key → Type 0
IsOperatorKey deletions key =
    (deletion : Deletion) × Contains deletions deletion × (deletion.reason ≡ Operator) × (deletion.row.key ≡ key)

-- the row is not generated, or no operator deleted one of its key
abbrev pub IsFreeOf : List Deletion → Row → Type 0
IsFreeOf deletions row = IsGenerated row.origin → IsOperatorKey deletions row.key → ⊥

-- whether an operator deleted it
abbrev pub is_operator : Reason → Bool
is_operator Operator = true
is_operator Withdrawn = false
is_operator Plan = false

abbrev pub by_operator : Deletion → Bool
by_operator deletion = is_operator deletion.reason

-- all rows arrive within the bounds
abbrev pub AllInBounds : Sets → Type 0
AllInBounds s = (b : Bounds) → s.bounds ≡ Some b → (serial : ℕ) (p : PlacedRow) → IsOnlyAt s serial p
    → ArrivesIn b p.row.key.ia p.place
