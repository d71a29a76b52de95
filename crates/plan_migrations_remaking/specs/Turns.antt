-- What statements on a transaction make of tables of schema 1.
use Rattle.std.specs.Prelude.{◌≡◌, ◌⊎◌, ◌+◌, ◌≤◌, ℕ, Bool, true, false, List, [], ◌∷◌, length, map, Option, Result, IsTrue}
use Rattle.std.specs.List.{AllByRecursion}
use Rattle.sqlite.specs.Change.{KeepsRows, created, next_tree}
use Rattle.sqlite.specs.Does.{lacks_sequence}
use Rattle.sqlite.specs.Effect.{Database, IsDatabase}
use Rattle.sqlite.specs.Schema.{Schema}
use Rattle.sqlite.specs.State.{State}
use Rattle.sqlite.specs.Store.{Ghosts}
use Rattle.sqlite.specs.declared.error.Error.{Error}
use Rattle.sqlite.specs.declared.error.Error.TheVariants.{SqliteFailure}
use Rattle.sqlite.specs.declared.error.ErrorCode.TheVariants.{Closed, DatabaseCorrupt, DiskFull, SystemIoFailure}
use Rattle.sqlite.specs.declared.transaction.Transaction.{Transaction}
use Rattle.sqlite_catalog.specs.Change.{automatics, is_used}
use Rattle.sqlite_disk.specs.Disk.{MoreFaults}
use Rattle.sqlite_schema.specs.declared.schema.Index.{Index}
use Rattle.plan_tables_schema.specs.Free.{CanMake, with_tables}
use Rattle.plan_tables_schema.specs.Made.{AllMade}
use Rattle.plan_tables_schema.specs.Schema.{name, table_at, uniques}
use Rattle.plan_tables_schema.specs.Writes.{Turns}
use Rattle.plan_tables_schema.specs.declared.tables.Table.{Table}
use Rattle.plan_migrations_remaking.specs.FirstSchema.{CanRemake, changed, changed_schema, without}
use Rattle.plan_migrations_remaking.specs.Refusals.{FailsFor}

-- the error reports the device, or that the connection is closed
abbrev pub is_of_device : Error → Bool
is_of_device (SqliteFailure SystemIoFailure) = true
is_of_device (SqliteFailure DatabaseCorrupt) = true
is_of_device (SqliteFailure DiskFull) = true
is_of_device (SqliteFailure Closed) = true
is_of_device _ = false

-- it does so only if the device failed meanwhile, or the connection was closed before
abbrev pub DeviceHasCause : State → State → Error → Type 0
DeviceHasCause old new e = IsTrue (is_of_device e) → MoreFaults old.faults new.faults ⊎ (old.is_open ≡ false)

-- in a transaction the database has this schema
abbrev pub IsInside : Schema → Database → State → Type 0
IsInside schema base s = (s.now.schema ≡ schema) × IsTrue s.in_transaction

-- ---- tables are dropped

-- in a transaction over a database in which the tables of schema 1 can be remade these were dropped; the others are
-- unchanged, with their rows
pub record IsLosing (gone : List Table) (base : Database) (s : State) : Type 0 where
  pub can : CanRemake base.schema
  pub schema : s.now.schema ≡ without can.has.trees gone base.schema
  pub others : KeepsRows s.now.schema.tables base.trees s.now.trees
  pub mode : IsTrue s.in_transaction

-- ---- tables of schema 2 are made

-- the name of the table, and those of the indexes of its keys
abbrev pub names_of : Table → List (List ℕ)
names_of t = name t ∷ map (λ (i : Index). i.name) (automatics (table_at 0 t) 0 0 (uniques t))

-- a transaction begins over a database in which nothing is in the way of the table
pub record CanMakeOne (t : Table) (base : Database) (s : State) : Type 0 where
  pub free : AllByRecursion (λ n. is_used base.schema n ≡ false) (names_of t)
  pub room : next_tree base.schema + 1 + length (uniques t) ≤ 65536
  pub uncounted : lacks_sequence base.schema ≡ false
  pub is : s.now ≡ base
  pub mode : IsTrue s.in_transaction

-- it is made, without rows; the others are unchanged, with their rows
pub record IsOneMade (t : Table) (base : Database) (s : State) : Type 0 where
  pub schema : s.now.schema ≡ created base.schema (table_at 0 t)
  pub empty : s.now.trees (next_tree base.schema) ≡ []
  pub others : KeepsRows base.schema.tables base.trees s.now.trees
  pub obeys : IsDatabase s.now
  pub mode : IsTrue s.in_transaction

-- a transaction begins over a database in which nothing is in the way of the two
pub record CanMakeChanged (base : Database) (s : State) : Type 0 where
  pub can : CanMake base.schema changed_schema
  pub is : s.now ≡ base
  pub mode : IsTrue s.in_transaction

-- they are made, without rows; the others are unchanged, with their rows
pub record AreChangedMade (base : Database) (s : State) : Type 0 where
  pub schema : s.now.schema ≡ with_tables base.schema changed
  pub empty : AllMade (λ t. s.now.trees t.tree ≡ []) base.schema changed
  pub others : KeepsRows base.schema.tables base.trees s.now.trees
  pub obeys : IsDatabase s.now
  pub mode : IsTrue s.in_transaction

-- ---- in turn

-- such statements fail for one of the four general errors or because this is refused
abbrev pub TurnsUnless : {S T : Type 0} → Ghosts S → (old new : Transaction S) → Result T Error
    → (Before After : Database → State → Type 0) → (Option ℕ → Database → Error → Type 0) → Type 0
TurnsUnless g old new result Before After Refused = Turns g old new result Before After
    (λ base old new. FailsFor (Refused old.step_limit base) old new)
