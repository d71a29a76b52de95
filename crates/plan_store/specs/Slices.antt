-- Parts of a list of rows.
use Rattle.std.specs.Prelude.{◌≡◌, List, Contains}
use Rattle.occurrences.specs.declared.row.Row.{Row}

-- all are of one application
abbrev pub HaveOneApp : {X : Type 0} → (X → Row) → List X → Type 0
HaveOneApp {X} row_of xs = (x y : X) → Contains xs x → Contains xs y → (row_of x).key.app ≡ (row_of y).key.app
