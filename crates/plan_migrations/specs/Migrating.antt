-- What a migration finds and leaves.
use Rattle.std.specs.Prelude.{◌≡◌, ◌⊎◌, ◌↔◌, false, None, ℕ, List, [], map, Result, Ok, Err, IsTrue, ⊤}
use Rattle.std.specs.List.{All}
use Rattle.std.specs.List.Sorted.{IsPermutation}
use Rattle.sqlite.specs.Change.{KeepsRows}
use Rattle.sqlite.specs.Effect.{Database, IsDatabase}
use Rattle.sqlite.specs.Schema.{Schema}
use Rattle.sqlite.specs.State.{IsUnchanged, Shown, State}
use Rattle.sqlite.specs.Tree.{Trees}
use Rattle.sqlite.specs.declared.error.Error.{Error}
use Rattle.planner_machine.specs.Content.{Content}
use Rattle.planner_machine.specs.Sound.{IsSound}
use Rattle.plan_tables_schema.specs.Rows.{HaveRowids, IsPlan, MayFail, Tables, no_rows, shown, tables_of}
use Rattle.plan_tables_schema.specs.Schema.{HasTables, all_tables, plan_schema}
use Rattle.plan_tables_schema.specs.Texts.{select_sql}
use Rattle.plan_tables_schema.specs.declared.tables.Table.{Table}
use Rattle.plan_tables_schema.specs.declared.tables.TheConstants.{SCHEMA_VERSION}
use Rattle.plan_tables_content.specs.Content.{IsContentOf}
use Rattle.plan_tables_opening.specs.Faults.{fault_for}
use Rattle.plan_tables_opening.specs.Foreign.{LacksMemory, RefusesVersion, version_sql}
use Rattle.plan_tables_opening.specs.Rowids.{rowid_sql}
use Rattle.plan_tables_opening.specs.Stored.{AllHaveRowids}
use Rattle.plan_tables_opening.specs.declared.faults.OpenFault.TheVariants as OpenFault
use Rattle.plan_tables_opening.specs.declared.faults.OpenFault.TheVariants.{Unopened}
use Rattle.plan_migrations_remaking.specs.FirstSchema.{CanRemake, first_shown, is_changed, remade_schema, without}
use Rattle.plan_migrations_remaking.specs.FirstTexts.{first_select_sql}
use Rattle.plan_migrations_remaking.specs.Refusals.{FailsFor}
use Rattle.plan_migrations_remaking.specs.Remaking.{AreAllFirst, AreRemade, AreRowsOf, AreWhole, HaveStayingRowids, IsRemadeOf}
use Rattle.plan_migrations_remaking.specs.Remaking.{RefusesToFill, RefusesToRemake, RemakesTo, remade_row, with_all_put}
use Rattle.plan_migrations_remaking.specs.declared.rows.FirstRows.{FirstRows}
use Rattle.plan_tables_opening.specs.Kept.{IsKept}
use Rattle.plan_migrations.specs.Asking.{FailsByDevice, IsFailure, IsFailureOfOne}
use Rattle.plan_migrations.specs.FirstContent.{IsFirstContentOf}
use Rattle.plan_migrations.specs.Schemas.{IsOfSchema, IsOfVersion, IsOther, IsOtherFirst, ShowsUnknown, ShowsVersion}
use Rattle.plan_migrations.specs.declared.faults.MigrateFault.{MigrateFault}
use Rattle.plan_migrations.specs.declared.faults.MigrateFault.TheVariants.{UnknownVersion, OtherTable, Rows, Memory, Device}
use Rattle.plan_migrations.specs.declared.versions.TheConstants.{FIRST_VERSION}

-- the fault of an error
abbrev pub TellsOf : Error → MigrateFault → Type 0
TellsOf e Memory = fault_for e Unopened ≡ OpenFault.Memory
TellsOf e Device = fault_for e Unopened ≡ OpenFault.Device
TellsOf e OtherTable = fault_for e Unopened ≡ Unopened
TellsOf e _ = ⊥

-- ---- tables of the current schema

-- a table is of its schema, or is not
abbrev pub ChecksTable : State → State → Table → Result (Unit {0}) MigrateFault → Type 0
ChecksTable old new t (Ok _) = IsOfSchema old new t
ChecksTable old new t (Err OtherTable) = IsOther old new t
ChecksTable old new t (Err fault) = IsFailure (select_sql t) old new fault

-- each of the tables is of its schema, or one of them is not
abbrev pub ChecksTables : State → State → List Table → Result (Unit {0}) MigrateFault → Type 0
ChecksTables old new tables (Ok _) = IsUnchanged old new × All (IsOfSchema old new) tables
ChecksTables old new tables (Err OtherTable) = (t : Table) × IsOther old new t
ChecksTables old new tables (Err fault) = IsFailureOfOne select_sql old new fault

-- ---- tables of schema 1

-- the rows are what the table shows
abbrev pub AreShown : State → State → FirstRows → Type 0
AreShown old new read = Shown (first_select_sql read.table) [] old new read.rows.items

-- why rows are not read: a table is not of its schema, or it fails
abbrev pub FailsToRead : State → State → Table → MigrateFault → Type 0
FailsToRead old new t OtherTable = IsOtherFirst old new t
FailsToRead old new t fault = IsFailure (first_select_sql t) old new fault

-- memory may also be refused if nothing happened to the database
abbrev pub FailsToReadAll : State → State → MigrateFault → Type 0
FailsToReadAll old new OtherTable = (t : Table) × IsOtherFirst old new t
FailsToReadAll old new Memory = IsUnchanged old new ⊎ IsFailureOfOne first_select_sql old new Memory
FailsToReadAll old new fault = IsFailureOfOne first_select_sql old new fault

-- ---- their rowids

-- a table that stays has a rowid that is no integer, or comes twice
abbrev pub HaveOtherRowids : Database → Type 0
HaveOtherRowids db = HaveStayingRowids (tables_of db.trees) → ⊥

-- the rowids of the table are integers, and none comes twice, if it stays; or one isn't so; or it fails. A limit on
-- steps may be reached.
abbrev pub ChecksRowids : State → State → Table → Result (Unit {0}) MigrateFault → Type 0
ChecksRowids old new t (Ok _) = is_changed t ≡ false → HaveRowids (tables_of old.now.trees t)
ChecksRowids old new t (Err Rows) = HaveOtherRowids old.now
ChecksRowids old new t (Err OtherTable) = (e : Error) × TellsOf e OtherTable × MayFail old new e
ChecksRowids old new t (Err fault) = IsFailure (rowid_sql t) old new fault

-- the same of each of the tables
abbrev pub ChecksAllRowids : State → State → List Table → Result (Unit {0}) MigrateFault → Type 0
ChecksAllRowids old new tables (Ok _) = All (λ t. is_changed t ≡ false → HaveRowids (tables_of old.now.trees t)) tables
ChecksAllRowids old new tables (Err Rows) = HaveOtherRowids old.now
ChecksAllRowids old new tables (Err OtherTable) = (e : Error) × TellsOf e OtherTable × MayFail old new e
ChecksAllRowids old new tables (Err fault) = IsFailureOfOne rowid_sql old new fault

-- ---- their content

-- in tables that are made of these rows they have this content
abbrev pub HaveContent : List FirstRows → Content → Type 0
HaveContent reads c = (all : Tables) → AreRemade reads all → IsContentOf all c

-- and it is sound
abbrev pub HaveSound : List FirstRows → Type 0
HaveSound reads = (c : Content) × IsSound c × HaveContent reads c

-- tables of a plan that are alone in a database don't accept one of the rows
abbrev pub AreNotTaken : List FirstRows → Error → Type 0
AreNotTaken reads e = RefusesToFill None plan_schema (with_all_put reads no_rows) e

-- why they have no sound content: the tables of a plan don't accept one of them, or their content is not sound; or
-- memory is refused
abbrev pub FailToHold : List FirstRows → MigrateFault → Type 0
FailToHold reads OtherTable = (e : Error) × TellsOf e OtherTable × AreNotTaken reads e
FailToHold reads Rows = (c : Content) → HaveContent reads c → IsSound c → ⊥
FailToHold reads Memory = ⊤
FailToHold reads _ = ⊥

-- ---- they are replaced

-- each table shows what it showed, each row as often: with no limits, and the current version
abbrev pub AreRenewed : Tables → Tables → Type 0
AreRenewed old new = (t : Table) → IsPermutation (map (remade_row t) (map (first_shown t) (old t))) (map (shown t) (new t))

-- and so they have the content that these had, and no other
abbrev pub KeepsContent : Tables → Tables → Type 0
KeepsContent old new = (c : Content) → IsFirstContentOf old c ↔ IsContentOf new c

-- tables of schema 1 were there, and nothing was in the way of the two of schema 2; these replace the two that change,
-- in a database that keeps its rules, after all others, which stay where they were, with all their indexes; they have
-- the rows and the content of those of schema 1, which is sound; all other tables have the rows that they had
pub record RenewsFrom (old : Database) (db : Trees) : Type 0 where
  pub was : CanRemake old.schema
  pub schema : Schema
  pub stands : schema ≡ remade_schema was.has.trees old.schema
  pub obeys : IsDatabase (record { schema = schema; trees = db })
  pub plan : HasTables schema
  pub rowids : AllHaveRowids (tables_of db)
  pub others : KeepsRows (without was.has.trees all_tables old.schema).tables old.trees db
  pub rows : AreRenewed (tables_of old.trees) (tables_of db)
  pub content : KeepsContent (tables_of old.trees) (tables_of db)
  pub sound : (c : Content) × IsSound c × IsFirstContentOf (tables_of old.trees) c

-- what it may commit
abbrev pub MayRenew : State → Trees → Type 0
MayRenew s db = RenewsFrom s.now db

-- the tables of schema 1 were there; those of the current schema are there, and all of it is committed
pub record IsRenewed (old new : State) : Type 0 where
  pub remade : IsRemadeOf old.now new.now
  pub renewed : MayRenew old new.now.trees
  pub plan : IsPlan new
  pub settled : new.committed ≡ new.now
  pub is_open : IsTrue new.is_open

-- they were made anew with these rows, and all is committed
pub record IsRemade (reads : List FirstRows) (old new : State) : Type 0 where
  pub remade : IsRemadeOf old.now new.now
  pub plan : IsPlan new
  pub made : RemakesTo reads old.now new.now.trees
  pub settled : new.committed ≡ new.now
  pub is_open : IsTrue new.is_open

-- ---- they are not

-- why they were not replaced: a statement is refused, or it fails
abbrev pub FailsToRemake : List FirstRows → State → State → MigrateFault → Type 0
FailsToRemake reads old new Device = FailsByDevice old new
FailsToRemake reads old new fault = (e : Error) × TellsOf e fault
    × FailsFor (RefusesToRemake old.step_limit reads old.now) old new e

-- all rows were read, and by the types of schema 1
pub record AreRead (old : Database) (reads : List FirstRows) : Type 0 where
  pub can : CanRemake old.schema
  pub whole : AreWhole reads
  pub typed : AreAllFirst reads
  pub rows : AreRowsOf (tables_of old.trees) reads

-- they were read, and then tables of a plan didn't accept one of them, next to other tables or alone; or the statement
-- would take more steps than are allowed
abbrev pub IsNotWritten : State → State → Type 0
IsNotWritten old new = (reads : List FirstRows) × AreRead old.now reads × (e : Error) × TellsOf e OtherTable
    × (AreNotTaken reads e ⊎ FailsFor (RefusesToRemake old.step_limit reads old.now) old new e)

-- they were read, and while they were written memory was refused
abbrev pub LacksMemoryToWrite : State → State → Type 0
LacksMemoryToWrite old new = (reads : List FirstRows) × AreRead old.now reads × HaveSound reads
    × FailsToRemake reads old new Memory

-- why they are not replaced: a table of schema 1 is missing or differs, or something is in the way of the two of
-- schema 2; a table has other rows; a row is not accepted; the content is not sound, or a rowid is no integer or comes
-- twice; or it fails
abbrev pub IsUnrenewed : State → State → MigrateFault → Type 0
IsUnrenewed old new UnknownVersion = ⊥
IsUnrenewed old new OtherTable = (CanRemake old.now.schema → ⊥)
    ⊎ (((t : Table) × IsOtherFirst old new t) ⊎ IsNotWritten old new)
IsUnrenewed old new Rows = CanRemake old.now.schema × (HaveOtherRowids old.now
    ⊎ ((c : Content) → IsFirstContentOf (tables_of old.now.trees) c → IsSound c → ⊥))
IsUnrenewed old new Memory = FailsToReadAll old new Memory
    ⊎ (IsFailureOfOne rowid_sql old new Memory ⊎ LacksMemoryToWrite old new)
IsUnrenewed old new Device = FailsByDevice old new

-- ---- all together

-- there are no tables, and none are made; or the tables of a plan are of the current schema, and stay as they are; or
-- they were of schema 1, and are replaced
abbrev pub IsMigrated : State → State → ℕ → ℕ → Type 0
IsMigrated old new found left =
    ((found ≡ 0) × (left ≡ 0) × RefusesVersion old new × IsKept old new)
    ⊎ ((found ≡ SCHEMA_VERSION) × (left ≡ SCHEMA_VERSION) × ShowsVersion SCHEMA_VERSION old new
    × All (IsOfSchema old new) all_tables × IsKept old new)
    ⊎ ((found ≡ FIRST_VERSION) × (left ≡ SCHEMA_VERSION) × IsRenewed old new)

-- a plan of the current version of which one table differs, or can't be read for lack of memory
abbrev pub IsUnchecked : State → State → MigrateFault → Type 0
IsUnchecked old new OtherTable = ShowsVersion SCHEMA_VERSION old new × ((t : Table) × IsOther old new t)
IsUnchecked old new Memory = IsOfVersion SCHEMA_VERSION old × IsFailureOfOne select_sql old new Memory
IsUnchecked old new _ = ⊥

-- why it is not migrated: its version is unknown; it is of the current version and one of its tables differs, or of
-- the first and not replaced; or it can't be read or written
abbrev pub IsUnmigrated : State → State → MigrateFault → Type 0
IsUnmigrated old new UnknownVersion = ShowsUnknown old new
IsUnmigrated old new Memory = LacksMemory version_sql old new
    ⊎ (IsUnchecked old new Memory ⊎ (IsOfVersion FIRST_VERSION old × IsUnrenewed old new Memory))
IsUnmigrated old new Device = FailsByDevice old new
IsUnmigrated old new fault = IsUnchecked old new fault ⊎ (IsOfVersion FIRST_VERSION old × IsUnrenewed old new fault)
