-- What a modification of one application may reach.
use Rattle.std.specs.Prelude.{◌≡◌, ℕ, List, Contains, Option, None, Some}
use Rattle.occurrences.specs.declared.row.Row.{Row}
use Rattle.plan_store.specs.declared.changes.NewLists.{NewLists}
use Rattle.plan_store.specs.declared.changes.NewLists.TheVariants as new_lists
use Rattle.long_term_plan.specs.Modifying.{Looks}

-- the list of the application
abbrev pub IsListOf : List ℕ → NewLists → Type 0
IsListOf app (new_lists.All lists) = ⊥
IsListOf app (new_lists.One list) = list.app ≡ app

-- what comes into force if the statement looks at all applications, whatever it is; if it looks at one, the list of that
-- one, or nothing
abbrev pub IsNewOf : Option (List ℕ) → Option NewLists → Type 0
IsNewOf None new = Unit {0}
IsNewOf (Some app) None = Unit {0}
IsNewOf (Some app) (Some new) = IsListOf app new

-- the rows are of applications that the statement looks at
abbrev pub AreRowsOf : Option (List ℕ) → List Row → Type 0
AreRowsOf only rows = (row : Row) → Contains rows row → Looks only row.key.app
