-- Why files are not opened.
use Rattle.std.specs.Prelude.{◌≡◌, ◌⊎◌, ℕ, ⊤}
use Rattle.sqlite.specs.Files.{HoldsDatabase, IsFullLeft, IsNothing, faults_left, faults_of, image_of, tally_left}
use Rattle.sqlite.specs.Tree.{Trees}
use Rattle.sqlite.specs.declared.error.Error.{Error}
use Rattle.sqlite.specs.declared.error.Error.TheVariants.{SqliteFailure}
use Rattle.sqlite.specs.declared.error.ErrorCode.TheVariants.{CannotOpen, DatabaseBusy, OutOfMemory}
use Rattle.sqlite.specs.declared.file.Leftover.{Leftover}
use Rattle.sqlite_disk.specs.Disk.{MoreFaults}
use Rattle.sqlite_disk.specs.declared.Disk as disk
use Rattle.sqlite_disk.specs.declared.Files.{Files}
use Rattle.sqlite_store.specs.Report.{named}
use Rattle.sqlite_trees.specs.declared.error.StoreError.{StoreError}
use Rattle.sqlite_trees.specs.declared.error.StoreError.TheVariants.{Corrupt}
use Rattle.sqlite_wal.specs.Reads.{tally_of_files}
use Rattle.plan_tables_opening.specs.declared.faults.OpenFault.{OpenFault}
use Rattle.plan_tables_opening.specs.declared.faults.OpenFault.TheVariants.{Memory, Device, Unopened, Tables, Rows}

-- memory is refused; the device failed meanwhile, or a limit of the files is reached; or they hold no database, or the
-- device gave bytes that nobody wrote. The failures of the device have this kind, and there were so many before and
-- after
abbrev pub Refuses : StoreError → ℕ → ℕ → Type 0 → Type 0 → OpenFault → Type 0
Refuses kind old new IsFull IsWanted Memory = ⊤
Refuses kind old new IsFull IsWanted Device = MoreFaults old new ⊎ IsFull
Refuses kind old new IsFull IsWanted Unopened = (¬ IsWanted) ⊎ ((kind ≡ Corrupt) × MoreFaults old new)
Refuses kind old new IsFull IsWanted Tables = ⊥
Refuses kind old new IsFull IsWanted Rows = ⊥

-- the files hold a database, or nothing yet
abbrev pub HoldOne : {D : Type 0} → disk.Ghosts D → Files D → Type 0
HoldOne g files = ((db : Trees) × HoldsDatabase (image_of g files) db) ⊎ IsNothing (image_of g files)

-- why these files, of which this is left, were not opened
abbrev pub IsRefused : {D : Type 0} {g : disk.Ghosts D} → Files D → Leftover D g → OpenFault → Type 0
IsRefused {D} {g} files left =
    Refuses (named (tally_of_files g (files.log, files.db)) (tally_left left)) (faults_of g files) (faults_left left)
    (IsFullLeft left) (HoldOne g files)

-- what `sqlite` reports if no file is left: it can't be opened, memory was refused, or another program locks it
abbrev pub IsUnreached : Error → Type 0
IsUnreached e = (e ≡ SqliteFailure CannotOpen) ⊎ ((e ≡ SqliteFailure OutOfMemory) ⊎ (e ≡ SqliteFailure DatabaseBusy))
