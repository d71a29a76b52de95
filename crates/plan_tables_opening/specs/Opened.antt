-- A database that keeps a content.
use Rattle.std.specs.Prelude.{◌≡◌, ◌⊎◌, false, IsSome, IsTrue, ⊤}
use Rattle.sqlite.specs.Change.{KeepsRows}
use Rattle.sqlite.specs.Effect.{Database, IsDatabase}
use Rattle.sqlite.specs.Schema.{Schema}
use Rattle.sqlite.specs.State.{State}
use Rattle.sqlite.specs.Tree.{Trees}
use Rattle.sqlite_disk.specs.Disk.{MoreFaults}
use Rattle.planner_machine.specs.Content.{Content, nothing_known}
use Rattle.plan_tables_schema.specs.Rows.{IsPlan, tables_of}
use Rattle.plan_tables_schema.specs.Free.{IsFree}
use Rattle.plan_tables_schema.specs.Schema.{HasTables}
use Rattle.plan_tables_content.specs.Content.{IsContentOf}
use Rattle.plan_tables_opening.specs.Kept.{IsKept}
use Rattle.plan_tables_opening.specs.Stored.{AllHaveRowids}
use Rattle.plan_tables_opening.specs.declared.faults.OpenFault.{OpenFault}
use Rattle.plan_tables_opening.specs.declared.faults.OpenFault.TheVariants.{Memory, Device, Unopened, Tables as OtherTables}

-- nothing in the database is in the way of the tables of a plan, of which it has none
abbrev pub HasRoom : State → Type 0
HasRoom s = IsFree s.now.schema

-- the database is open, all of it is committed, and its tables have the content
pub record IsStored (s : State) (c : Content) : Type 0 where
  pub is_open : IsTrue s.is_open
  pub plan : IsPlan s
  pub settled : s.now ≡ s.committed
  pub content : IsContentOf (tables_of s.now.trees) c

-- the database has the tables of the plan, which have the content; or nothing in it is in their way, and nothing is
-- known
abbrev pub IsToldBy : Database → Content → Type 0
IsToldBy db c = (HasTables db.schema × IsContentOf (tables_of db.trees) c) ⊎ (IsFree db.schema × (c ≡ nothing_known))

-- what opening may commit, if nothing was in their way: a database with the tables of the plan, which have a content
-- of which nothing is known, no two rows of a table with one rowid; each other table keeps its rows
pub record MakesFirst (s : State) (db : Trees) : Type 0 where
  pub room : HasRoom s
  pub schema : Schema
  pub obeys : IsDatabase (record { schema = schema; trees = db })
  pub plan : HasTables schema
  pub content : IsContentOf (tables_of db) nothing_known
  pub rowids : AllHaveRowids (tables_of db)
  pub others : KeepsRows s.now.schema.tables s.now.trees db

-- why a database that has the tables of the plan is not opened: for the device only if it failed meanwhile or the
-- connection was closed before, and for its tables only if a limit on steps is set; other clauses say what holds of
-- its version and rows; and if memory is refused, as it may be at any time, an open connection sees what it saw
abbrev pub IsCaused : State → State → OpenFault → Type 0
IsCaused old new Memory = IsKept old new
IsCaused old new Device = MoreFaults old.faults new.faults ⊎ (old.is_open ≡ false)
IsCaused old new OtherTables = IsSome old.step_limit
IsCaused old new _ = ⊤

-- why a database in which nothing is in their way does not get the tables: memory is refused, and an open connection
-- sees what it saw; the device failed meanwhile, the connection was closed before, or a limit on steps is set
abbrev pub IsUnmade : State → State → OpenFault → Type 0
IsUnmade old new Memory = IsKept old new
IsUnmade old new Device = MoreFaults old.faults new.faults ⊎ (old.is_open ≡ false)
IsUnmade old new Unopened = IsSome old.step_limit
IsUnmade old new _ = ⊥

-- why a database that has a sound plan is not opened, for nothing that is in it: memory is refused, and an open
-- connection sees what it saw; the device failed meanwhile, the connection was closed before, or a limit on steps is
-- set
abbrev pub IsCommon : State → State → OpenFault → Type 0
IsCommon old new Memory = IsKept old new
IsCommon old new Device = MoreFaults old.faults new.faults ⊎ (old.is_open ≡ false)
IsCommon old new OtherTables = IsSome old.step_limit
IsCommon old new _ = ⊥
