-- What a database refuses on the way from the tables of schema 1 to those of schema 2.
use Rattle.std.specs.Prelude.{◌≡◌, ◌⊎◌, ℕ, false, List, [], Option, Some, None, Err}
use Rattle.sqlite.specs.Change.{KeepsRows}
use Rattle.sqlite.specs.Command.{Command}
use Rattle.sqlite.specs.Command.TheVariants.{CreateTable, DropTable}
use Rattle.sqlite.specs.Does.{Does}
use Rattle.sqlite.specs.Effect.{Database}
use Rattle.sqlite.specs.Order.{Row}
use Rattle.sqlite.specs.State.{State}
use Rattle.sqlite.specs.declared.error.Error.{Error}
use Rattle.sqlite.specs.declared.error.Error.TheVariants.{SqliteFailure}
use Rattle.sqlite.specs.declared.error.ErrorCode.TheVariants.{TooBig}
use Rattle.sqlite.specs.declared.run.Mode.{Mode}
use Rattle.sqlite_schema.specs.Names.{table_named}
use Rattle.sqlite_schema.specs.declared.schema.Keys.TheVariants.{Enforced}
use Rattle.plan_tables_schema.specs.Rows.{MayFail}
use Rattle.plan_tables_schema.specs.Schema.{name}
use Rattle.plan_tables_schema.specs.declared.tables.Table.{Table}
use Rattle.plan_migrations_remaking.specs.FirstSchema.{CanRemake, first_before, without}
use Rattle.plan_migrations_remaking.specs.FirstTexts.{first_create_sql}

-- each statement leaves the foreign keys kept
abbrev pub by_rule : Mode
by_rule = record { keys = Enforced; in_doubt = false; may_wait = false }

-- the database refuses the command, or what that makes can't be stored
abbrev pub IsRefused : Option ℕ → Row → Database → List ℕ → Command → Error → Type 0
IsRefused limit params db text command e = Does limit by_rule params db text None command (Err (Some e))
    ⊎ ((e ≡ SqliteFailure TooBig) × Does limit by_rule params db text None command (Err None))

-- it refuses to make the table of schema 1
abbrev pub RefusesToMake : Option ℕ → Database → Table → Error → Type 0
RefusesToMake limit db t e = IsRefused limit [] db (first_create_sql t) CreateTable e

-- it refuses to drop the table
abbrev pub RefusesToDrop : Option ℕ → Database → Table → Error → Type 0
RefusesToDrop limit db t e = (at : ℕ) × (table_named db.schema (name t) ≡ Some at)
    × IsRefused limit [] db [] (DropTable at) e

-- why a statement fails: memory is refused, the device failed meanwhile, the connection was closed before, or a limit
-- on steps is set; or it is refused
abbrev pub FailsFor : (Error → Type 0) → State → State → Error → Type 0
FailsFor Refused old new e = MayFail old new e ⊎ Refused e

-- on the way to the tables of schema 1 one of them can't be made
pub record RefusesToBegin (limit : Option ℕ) (base : Database) (e : Error) : Type 0 where
  pub db : Database
  pub table : Table
  pub schema : db.schema ≡ first_before table
  pub refused : RefusesToMake limit db table e

-- one of the two tables that change can't be dropped, once these are gone and the others are unchanged
pub record RefusesToLose (limit : Option ℕ) (base : Database) (e : Error) : Type 0 where
  pub can : CanRemake base.schema
  pub db : Database
  pub table : Table
  pub gone : List Table
  pub schema : db.schema ≡ without can.has.trees gone base.schema
  pub others : KeepsRows db.schema.tables base.trees db.trees
  pub refused : RefusesToDrop limit db table e
