-- The rows of the tables of schema 1, as those of schema 2 accept them.
use Rattle.std.specs.Prelude.{◌≡◌, ◌⊎◌, ℕ, false, List, [], ◌∷◌, ◌++◌, drop, map, fold, pos, take, Option, Some, Result, IfErr}
use Rattle.std.specs.Prelude.{OnOk, IsTrue}
use Rattle.std.specs.List.{All}
use Rattle.std.specs.List.Sorted.{IsPermutation}
use Rattle.sqlite.specs.Change.{KeepsRows}
use Rattle.sqlite.specs.Command.TheVariants.{Insert}
use Rattle.sqlite.specs.Effect.{Database, IsDatabase}
use Rattle.sqlite.specs.Order.{Row}
use Rattle.sqlite.specs.Schema.{Schema}
use Rattle.sqlite.specs.Source.TheVariants.{Values}
use Rattle.sqlite.specs.declared.types.Value.TheVariants.{Null, Int}
use Rattle.sqlite.specs.State.{HasCleanDisk, State}
use Rattle.sqlite.specs.Store.{Ghosts}
use Rattle.sqlite.specs.Tree.{Trees}
use Rattle.sqlite.specs.declared.error.Error.{Error}
use Rattle.sqlite.specs.declared.transaction.Transaction.{Transaction}
use Rattle.sqlite_schema.specs.Names.{table_named}
use Rattle.plan_tables_schema.specs.Cells.{insert_terms, width}
use Rattle.plan_tables_schema.specs.Free.{with_plan}
use Rattle.plan_tables_schema.specs.Made.{IsReady}
use Rattle.plan_tables_schema.specs.Rows.{HaveRowids, IsPlan, KeepsBeside, MayFail, Tables, no_rows, shown, tables_of, with_cells}
use Rattle.plan_tables_schema.specs.Rows.{with_rows, without_key}
use Rattle.plan_tables_schema.specs.Writes.{seen}
use Rattle.plan_tables_schema.specs.Schema.{HasTables, all_tables, name}
use Rattle.plan_tables_schema.specs.declared.tables.Table.{Table}
use Rattle.plan_tables_schema.specs.declared.tables.Table.TheVariants.{Meta, Predecessor, LinkInForce}
use Rattle.plan_tables_schema.specs.declared.tables.TheConstants.{SCHEMA_VERSION}
use Rattle.plan_migrations_remaking.specs.FirstSchema.{CanRemake, first_shown, is_changed, remade_schema, without}
use Rattle.plan_migrations_remaking.specs.Refusals.{FailsFor, IsRefused, RefusesToLose}
use Rattle.plan_migrations_remaking.specs.Types.{AreFirst}
use Rattle.plan_migrations_remaking.specs.declared.rows.FirstRows.{FirstRows}

-- the row of `plan_meta` has the current version
abbrev pub with_version : Row → Row
with_version (id ∷ version ∷ rest) = id ∷ Int (pos SCHEMA_VERSION) ∷ rest
with_version row = row

-- a row that the table showed, as it shows it now: a predecessor has no limit
abbrev pub remade_row : Table → Row → Row
remade_row Meta row = with_version row
remade_row Predecessor row = row ++ Null ∷ []
remade_row LinkInForce row = row ++ Null ∷ []
remade_row t row = row

-- the tables with a row for each of these in one of them
abbrev pub with_rows_put : Table → List Row → Tables → Tables
with_rows_put t rows all = fold (λ (now : Tables) row. with_cells t (remade_row t row) now) all rows

-- the tables with all these rows
abbrev pub with_all_put : List FirstRows → Tables → Tables
with_all_put reads all = fold (λ (now : Tables) (read : FirstRows). with_rows_put read.table read.rows.items now) all reads

-- the values are of the types of schema 1
abbrev pub AreAllFirst : List FirstRows → Type 0
AreAllFirst reads = All (λ (read : FirstRows). AreFirst read.table read.rows.items) reads

-- the tables of which these are
abbrev pub tables_in : List FirstRows → List Table
tables_in reads = map (λ (read : FirstRows). read.table) reads

-- they have each table once, in the order in which the tables are made
abbrev pub AreWhole : List FirstRows → Type 0
AreWhole reads = tables_in reads ≡ all_tables

-- each table shows these rows of it, each as often, and no others
abbrev pub AreRemade : List FirstRows → Tables → Type 0
AreRemade reads all = All (λ (read : FirstRows).
    IsPermutation (map (remade_row read.table) read.rows.items) (map (shown read.table) (all read.table))) reads

-- each table of schema 1 showed these rows of it, each as often, and no others
abbrev pub AreRowsOf : Tables → List FirstRows → Type 0
AreRowsOf all reads = All (λ (read : FirstRows).
    IsPermutation (map (first_shown read.table) (all read.table)) read.rows.items) reads

-- each table that doesn't change has an integer as the rowid of each row, and no two the same
abbrev pub HaveStayingRowids : Tables → Type 0
HaveStayingRowids all = (t : Table) → is_changed t ≡ false → HaveRowids (all t)

-- the tables of schema 1 can be remade in a database that keeps its rules, with the rows that they have
pub record CanRemakeOf (reads : List FirstRows) (old : Database) : Type 0 where
  pub can : CanRemake old.schema
  pub obeys : IsDatabase old
  pub rowids : HaveStayingRowids (tables_of old.trees)
  pub rows : AreRowsOf (tables_of old.trees) reads

-- a transaction begins over it
pub record CanRemakeInside (reads : List FirstRows) (base : Database) (s : State) : Type 0 where
  pub from : CanRemakeOf reads base
  pub is : s.now ≡ base
  pub typed : AreAllFirst reads
  pub mode : IsTrue s.in_transaction

-- the two tables of schema 2 are in place of those of schema 1, after the others; those that are none of the plan keep
-- their rows
pub record IsRemadeOf (old new : Database) : Type 0 where
  pub can : CanRemake old.schema
  pub schema : new.schema ≡ remade_schema can.has.trees old.schema
  pub others : KeepsRows (without can.has.trees all_tables old.schema).tables old.trees new.trees

-- they are so in a database that keeps its rules, and all show the rows
pub record RemakesTo (reads : List FirstRows) (old : Database) (db : Trees) : Type 0 where
  pub schema : Schema
  pub remade : IsRemadeOf old (record { schema = schema; trees = db })
  pub obeys : IsDatabase (record { schema = schema; trees = db })
  pub plan : HasTables schema
  pub rowids : (t : Table) → HaveRowids (tables_of db t)
  pub rows : AreRemade reads (tables_of db)

-- ---- what is refused

-- the database refuses a row of these values
abbrev pub RefusesRow : Option ℕ → Database → Table → Row → Error → Type 0
RefusesRow limit db t cells e = (at : ℕ) × (table_named db.schema (name t) ≡ Some at)
    × IsRefused limit cells db [] (Insert at (Values (insert_terms t) (width t))) e

-- on the way to these rows of the tables one can't be inserted: with it and those after it they would be complete
pub record RefusesToFill (limit : Option ℕ) (schema : Schema) (goal : Tables) (e : Error) : Type 0 where
  pub db : Database
  pub same : db.schema ≡ schema
  pub table : Table
  pub row : Row
  pub rows : List Row
  pub reads : List FirstRows
  pub next : with_all_put reads (with_rows_put table (row ∷ rows) (tables_of db.trees)) ≡ goal
  pub refused : RefusesRow limit db table (remade_row table row) e

-- the two tables are made anew, without rows
abbrev pub emptied : Tables → Tables
emptied all = with_rows Predecessor [] (with_rows LinkInForce [] all)

-- the row of `plan_meta`
abbrev pub meta_key : Row
meta_key = Int (pos 1) ∷ []

-- what was read of `plan_meta`, and of the two tables that change
abbrev pub of_meta : List FirstRows → List FirstRows
of_meta reads = take 1 reads

abbrev pub of_changed : List FirstRows → List FirstRows
of_changed reads = take 2 (drop 6 reads)

-- the row of `plan_meta` is replaced, and the rows of the two tables are inserted into them
abbrev pub refilled : List FirstRows → Tables → Tables
refilled reads all = with_all_put (of_changed reads) (with_all_put (of_meta reads) (without_key Meta meta_key all))

-- one of the two tables can't be dropped, or a row can't be inserted into `plan_meta` or into the tables that replace
-- them
abbrev pub RefusesToRemake : Option ℕ → List FirstRows → Database → Error → Type 0
RefusesToRemake limit reads base e = RefusesToLose limit base e ⊎ ((can : CanRemake base.schema)
    × RefusesToFill limit (remade_schema can.has.trees base.schema) (refilled reads (emptied (tables_of base.trees))) e)

-- ---- inside a transaction

-- in a transaction the database has the tables of a plan in their place, and these show the rows
pub record IsRemadeInside (reads : List FirstRows) (base : Database) (s : State) : Type 0 where
  pub remade : IsRemadeOf base s.now
  pub plan : IsPlan s
  pub rows_are : tables_of s.now.trees ≡ refilled reads (emptied (tables_of base.trees))
  pub obeys : IsDatabase s.now
  pub mode : IsTrue s.in_transaction

-- a transaction goes on over the tables of a plan
pub record CanRefill (reads : List FirstRows) (base : Database) (s : State) : Type 0 where
  pub plan : IsPlan s
  pub obeys : IsDatabase s.now
  pub is : s.now ≡ base
  pub typed : AreAllFirst reads
  pub mode : IsTrue s.in_transaction

-- they have the rows; all other tables have the rows that they had
pub record IsRefilled (reads : List FirstRows) (base : Database) (s : State) : Type 0 where
  pub plan : IsPlan s
  pub schema : s.now.schema ≡ base.schema
  pub rows_are : tables_of s.now.trees ≡ refilled reads (tables_of base.trees)
  pub others : KeepsBeside base s.now
  pub obeys : IsDatabase s.now
  pub mode : IsTrue s.in_transaction

-- a row can't be inserted
abbrev pub RefusesToRefill : List FirstRows → Option ℕ → Database → Error → Type 0
RefusesToRefill reads limit base = RefusesToFill limit base.schema (refilled reads (tables_of base.trees))

-- over the tables of a plan it fails for one of the four general errors or because this is refused; an Ok leaves the
-- connection open
pub record PutsWhere {S T : Type 0} (Fit : Type 0) (Refused : Option ℕ → Database → Error → Type 0) (g : Ghosts S)
    (old new : Transaction S) (result : Result T Error) : Type 0 where
  pub fails : HasCleanDisk (seen g new) → IsPlan (seen g old) → IsTrue (seen g old).in_transaction
      → IsTrue (seen g old).is_open → Fit
      → IfErr result (FailsFor (Refused (seen g old).step_limit (seen g old).now) (seen g old) (seen g new))
  pub stays_open : HasCleanDisk (seen g new) → IsPlan (seen g old) → IsTrue (seen g old).in_transaction
      → IsTrue (seen g old).is_open → Fit → OnOk result (IsTrue (seen g new).is_open)

-- in a plan that keeps its rules nothing in the tables keeps the row of `plan_meta` from being deleted, and an Ok
-- leaves the connection open
pub record DeletesMeta {S T : Type 0} (g : Ghosts S) (old new : Transaction S) (result : Result T Error) : Type 0 where
  pub fails : HasCleanDisk (seen g new) → IsPlan (seen g old) → IsTrue (seen g old).in_transaction
      → IsDatabase (seen g old).now → IfErr result (MayFail (seen g old) (seen g new))
  pub stays_open : HasCleanDisk (seen g new) → IsTrue (seen g old).in_transaction
      → OnOk result (IsTrue (seen g new).is_open)

-- a transaction begins over a database in which the tables of a plan can be made, and these rows are of schema 1
abbrev pub CanFill : List FirstRows → Database → State → Type 0
CanFill reads base s = IsReady base s × AreAllFirst reads

-- the tables of a plan are made, and these rows inserted; the others are unchanged, with their rows
pub record IsFilled (reads : List FirstRows) (base : Database) (s : State) : Type 0 where
  pub plan : IsPlan s
  pub rows_are : tables_of s.now.trees ≡ with_all_put reads no_rows
  pub schema : s.now.schema ≡ with_plan base.schema
  pub others : KeepsRows base.schema.tables base.trees s.now.trees
  pub obeys : IsDatabase s.now
  pub mode : IsTrue s.in_transaction

-- one of the rows can't be inserted
abbrev pub RefusesToFillAll : List FirstRows → Option ℕ → Database → Error → Type 0
RefusesToFillAll reads limit base = RefusesToFill limit (with_plan base.schema) (with_all_put reads no_rows)

-- the tables of a plan are in a database, and show the rows
abbrev pub IsFilledOnce : List FirstRows → State → State → Type 0
IsFilledOnce reads old new = IsPlan new × AreRemade reads (tables_of new.now.trees)

-- they stand so in a database that keeps its rules
pub record IsRemadeOnce (reads : List FirstRows) (old new : State) : Type 0 where
  pub plan : IsPlan new
  pub remade : IsRemadeOf old.now new.now
  pub obeys : IsDatabase new.now
  pub rows : AreRemade reads (tables_of new.now.trees)
