-- Files that are not opened as a plan, by what they held.
use Rattle.std.specs.Prelude.{◌≡◌, ◌⊎◌, Bool, true, false, IfSome, IsTrue, None, Option}
use Rattle.sqlite.specs.Files.{IsCleanLeft, IsOpened, LeavesFiles, file_state}
use Rattle.sqlite.specs.Held.{Held, IsNew, state}
use Rattle.sqlite.specs.Start.{FindsIn}
use Rattle.sqlite.specs.Store.{Ghosts}
use Rattle.sqlite.specs.Tree.{Trees}
use Rattle.sqlite.specs.declared.file.Leftover.{Leftover}
use Rattle.sqlite.specs.declared.file.Leftover.TheVariants as left
use Rattle.sqlite_disk.specs.declared.Disk as disk
use Rattle.sqlite_disk.specs.declared.Files.{Files}
use Rattle.sqlite_store.specs.FileStore.{faults, is_shielded, recovers, view}
use Rattle.sqlite_store.specs.declared.store.FileStore.{FileStore}
use Rattle.sqlite_trees.specs.View.{IsClean, IsQuiet}
use Rattle.sqlite_wal.specs.Recovery.{Image}
use Rattle.plan_tables_opening.specs.Files.{IsRefused}
use Rattle.plan_tables_opening.specs.Opened.{IsCommon, MakesFirst}
use Rattle.plan_tables_opening.specs.Opening.{IsUnopened}
use Rattle.plan_tables_opening.specs.declared.faults.OpenFault.{OpenFault}
use Rattle.plan_tables_opening.specs.declared.faults.OpenFault.TheVariants.{Memory, Unopened}
use Rattle.plan_tables.specs.Adopted.{ComesBack}
use Rattle.plan_tables.specs.Stored.{HoldsSound}

-- a connection is returned and dropped, and what held its database is left
pub record IsGivenBack {S : Type 0} (g : Ghosts S) (conn : Held S) (left : OpenFault × S) : Type 0 where
  pub back : Held S
  pub comes : ComesBack g conn (left.0, back)
  pub quiet : IsQuiet g.view g.faults g.recovers g.is_shielded back.store left.1
  pub stays : IsClean (g.view left.1) → IsTrue (state g conn).is_open → (db : Trees) → g.recovers left.1 db
      → (db ≡ (state g conn).committed.trees) ⊎ MakesFirst (state g conn) db

-- files that held this were opened, and the database in them is not that of a plan; this is left of them
pub record HoldsNoPlan {D : Type 0} {g : disk.Ghosts D} (image : Image) (fault : OpenFault) (left : FileStore D g)
    : Type 0 where
  -- the connection to the database that was found, and as it was dropped
  pub conn : Held (FileStore D g)
  pub back : Held (FileStore D g)
  pub fresh : IsNew conn
  pub found : IsClean (view left) → IsOpened conn × FindsIn image (file_state conn)
  -- why it is not opened, by what is there
  pub unopened : IsClean (view left) → IsUnopened (file_state conn) (file_state back) fault
  -- if they held a database with a sound plan, never for anything in it
  pub common : IsClean (view left) → HoldsSound image → IsCommon (file_state conn) (file_state back) fault
  pub quiet : IsQuiet view faults recovers is_shielded back.store left
  -- a crash leaves what was found, or, if nothing was in their way, the tables of a content of which nothing is known
  pub stays : IsClean (view left) → (db : Trees) → recovers left db
      → (db ≡ (file_state conn).committed.trees) ⊎ MakesFirst (file_state conn) db

-- files that were as at their opening are refused, and hold what they held
abbrev pub AreRefused : {D : Type 0} {g : disk.Ghosts D} → (Bool → D → Type 0) → OpenFault → Leftover D g → Type 0
AreRefused {D} IsFresh fault rest = (files : Files D) × IsFresh true files.log × IsFresh false files.db
    × (IsCleanLeft rest → IsRefused files rest fault × LeavesFiles files rest)

-- a path is not opened as a plan: there are no files, or they are refused, or the database that they hold is not
-- that of a plan
abbrev pub IsNotOpened : {D : Type 0} {g : disk.Ghosts D} → (Bool → D → Type 0) → Image
    → OpenFault × Option (Leftover D g) → Type 0
IsNotOpened {D} {g} IsFresh image out =
    (out.1 ≡ None → (out.0 ≡ Memory) ⊎ (out.0 ≡ Unopened))
    × IfSome out.1 (λ rest. AreRefused IsFresh out.0 rest
    ⊎ ((store : FileStore D g) × (rest ≡ left.Store store) × HoldsNoPlan image out.0 store))
