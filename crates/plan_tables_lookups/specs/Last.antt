-- The row of an application that arrives last at a moment or before it.
use Rattle.std.specs.Prelude.{◌≡◌, ◌≤◌, ℕ, false, List, [], ◌∷◌, map, Contains, Option, Some, None}
use Rattle.std.specs.Ordering.{is_lt}
use Rattle.sqlite.specs.Order.{Row, column}
use Rattle.sqlite.specs.declared.types.Value.TheVariants.{Text}
use Rattle.sqlite_value.specs.Order.{value_cmp}
use Rattle.plan_tables_lookups.specs.Finding.{natural}
use Rattle.plan_tables_lookups.specs.Looks.{question}
use Rattle.plan_tables_lookups.specs.Question.{asked_for}
use Rattle.plan_tables_lookups.specs.declared.looks.Look.TheVariants.{LastOf}
use Rattle.plan_tables_schema.specs.Rows.{Tables, shown}
use Rattle.plan_tables_schema.specs.declared.tables.Table.TheVariants.{History}

-- it arrives no earlier than any other, as values are ordered
pub record IsLatest (rows : List Row) (row : Row) : Type 0 where
  pub has : Contains rows row
  pub latest : (other : Row) → Contains rows other → is_lt (value_cmp (column row 2) (column other 2)) ≡ false

-- one of those that arrive last, or none where there is none
abbrev pub IsLastOf : List Row → Option Row → Type 0
IsLastOf rows None = rows ≡ []
IsLastOf rows (Some row) = IsLatest rows row

-- the row shows the application, and when it arrives
pub record Arrives (app : List ℕ) (ia : ℕ) (row : Row) : Type 0 where
  pub of : column row 1 ≡ Text app
  pub at : column row 2 ≡ natural ia

-- each row shows an application and an arrival
abbrev pub EachArrives : List Row → Type 0
EachArrives rows = (row : Row) → Contains rows row → (app : List ℕ) × (ia : ℕ) × Arrives app ia row

-- of the rows of the application that arrive at the moment or before it, none arrives later
pub record IsLastBefore (app : List ℕ) (moment : ℕ) (rows : List Row) (found : Row) : Type 0 where
  pub has : Contains rows found
  pub ia : ℕ
  pub arrives : Arrives app ia found
  pub before : ia ≤ moment
  pub last : (row : Row) (other : ℕ) → Contains rows row → Arrives app other row → other ≤ moment → other ≤ ia

abbrev pub TellsLast : List ℕ → ℕ → List Row → Option Row → Type 0
TellsLast app moment rows None = (row : Row) (ia : ℕ) → Contains rows row → Arrives app ia row → ia ≤ moment → ⊥
TellsLast app moment rows (Some found) = IsLastBefore app moment rows found

-- of the rows that the query matches, one that arrives last; and if each row of history shows its application and
-- arrival, that is the last of the application at the moment or before it
abbrev pub IsLastFound : List ℕ → ℕ → Tables → Option Row → Type 0
IsLastFound app moment all found = IsLastOf (asked_for (question LastOf) (Text app ∷ natural moment ∷ []) all) found
    × (EachArrives (map (shown History) (all History)) → TellsLast app moment (map (shown History) (all History)) found)
