-- The version of a plan, and tables that are of the schema of a version.
use Rattle.std.specs.Prelude.{◌≡◌, ◌⊎◌, ℕ, List, [], ◌∷◌, Option, Some, None, Result, Ok, Err}
use Rattle.sqlite.specs.Order.{Row as Values, column}
use Rattle.sqlite.specs.State.{State, Shown}
use Rattle.plan_tables_schema.specs.Texts.{select_sql}
use Rattle.plan_tables_schema.specs.declared.tables.Table.{Table}
use Rattle.plan_tables_schema.specs.declared.tables.TheConstants.{SCHEMA_VERSION}
use Rattle.plan_tables_content.specs.Facts.{natural}
use Rattle.plan_tables_opening.specs.Foreign.{RefusesToShow, RefusesVersion, version_sql}
use Rattle.plan_migrations_remaking.specs.FirstTexts.{first_select_sql}
use Rattle.plan_migrations_remaking.specs.Types.{AreFirst, AreTyped}
use Rattle.plan_migrations.specs.Asking.{HasAnswer, IsFailure}
use Rattle.plan_migrations.specs.declared.faults.MigrateFault.{MigrateFault}
use Rattle.plan_migrations.specs.declared.faults.MigrateFault.TheVariants.{UnknownVersion}
use Rattle.plan_migrations.specs.declared.versions.TheConstants.{FIRST_VERSION}

-- ---- versions

-- the one row that `plan_meta` shows has this version
abbrev pub AreOf : ℕ → List Values → Type 0
AreOf v rows = (cells : Values) × (rows ≡ cells ∷ []) × (column cells 1 ≡ natural v)

-- there are two
abbrev pub IsKnownVersion : ℕ → Type 0
IsKnownVersion v = (v ≡ FIRST_VERSION) ⊎ (v ≡ SCHEMA_VERSION)

-- `plan_meta` shows one row, of this version
abbrev pub ShowsVersion : ℕ → State → State → Type 0
ShowsVersion v old new = (rows : List Values) × Shown version_sql [] old new rows × AreOf v rows

-- it shows none, several, or one of another version
abbrev pub ShowsUnknown : State → State → Type 0
ShowsUnknown old new = (rows : List Values) × Shown version_sql [] old new rows
    × ((v : ℕ) → IsKnownVersion v → AreOf v rows → ⊥)

-- this is the version that it has to show
abbrev pub IsOfVersion : ℕ → State → Type 0
IsOfVersion v s = (rows : List Values) × HasAnswer version_sql s rows × AreOf v rows

-- the version that is returned is the one that `plan_meta` shows; none is returned if the database refuses to show it:
-- it is without tables
abbrev pub TellsVersion : State → State → Result (Option ℕ) MigrateFault → Type 0
TellsVersion old new (Ok (Some v)) = IsKnownVersion v × ShowsVersion v old new
TellsVersion old new (Ok None) = RefusesVersion old new
TellsVersion old new (Err UnknownVersion) = ShowsUnknown old new
TellsVersion old new (Err fault) = IsFailure version_sql old new fault

-- ---- tables

-- what the query selects is shown, and it passes the test
abbrev pub ShowsSuch : List ℕ → (List Values → Type 0) → State → State → Type 0
ShowsSuch sql Such old new = (rows : List Values) × Shown sql [] old new rows × Such rows

-- it is not shown, for another reason than memory or the device; or it fails the test
abbrev pub ShowsOther : List ℕ → (List Values → Type 0) → State → State → Type 0
ShowsOther sql Such old new = RefusesToShow sql old new
    ⊎ ((rows : List Values) × Shown sql [] old new rows × (Such rows → ⊥))

-- all rows of the table are shown, with values of the types of its columns
abbrev pub IsOfSchema : State → State → Table → Type 0
IsOfSchema old new t = ShowsSuch (select_sql t) (AreTyped t) old new

-- they are not shown, for another reason than memory or the device; or one has a value of another type
abbrev pub IsOther : State → State → Table → Type 0
IsOther old new t = ShowsOther (select_sql t) (AreTyped t) old new

-- the same by schema 1
abbrev pub IsOtherFirst : State → State → Table → Type 0
IsOtherFirst old new t = ShowsOther (first_select_sql t) (AreFirst t) old new
