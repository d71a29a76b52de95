-- Why a stream is not run over files, and what they hold then.
use Rattle.std.specs.Prelude.{◌≡◌, ◌⊎◌, Bool, true, false, IfSome, IsSome, IsTrue, None, Option, ⊤}
use Rattle.sqlite.specs.Files.{IsCleanLeft, IsFullLeft, IsOpened, LeavesFiles, faults_left, faults_of, file_state}
use Rattle.sqlite.specs.Files.{tally_left}
use Rattle.sqlite.specs.Held.{Held, IsNew}
use Rattle.sqlite.specs.Start.{FindsIn}
use Rattle.sqlite.specs.State.{HasCleanDisk, State}
use Rattle.sqlite.specs.Tree.{Trees}
use Rattle.sqlite.specs.declared.file.Leftover.{Leftover}
use Rattle.sqlite.specs.declared.file.Leftover.TheVariants as left
use Rattle.sqlite_disk.specs.declared.Disk as disk
use Rattle.sqlite_disk.specs.declared.Files.{Files}
use Rattle.sqlite_store.specs.FileStore.{faults, is_shielded, recovers, state, view}
use Rattle.sqlite_store.specs.declared.store.FileStore.{FileStore}
use Rattle.sqlite_trees.specs.View.{IsClean, IsQuiet}
use Rattle.sqlite_wal.specs.Recovery.{Image}
use Rattle.sqlite_store.specs.Report.{named}
use Rattle.sqlite_wal.specs.Reads.{tally_of_files}
use Rattle.sqlite.specs.declared.error.Error.{Error}
use Rattle.plan_tables_opening.specs.Faults.{unopened_for}
use Rattle.plan_tables_opening.specs.Files.{IsRefused, Refuses}
use Rattle.plan_tables_opening.specs.Foreign.{version_sql}
use Rattle.plan_tables_opening.specs.Held.{HoldsPlan}
use Rattle.plan_tables_opening.specs.Opened.{IsCommon, MakesFirst}
use Rattle.plan_tables_opening.specs.Opening.{IsUnopened}
use Rattle.plan_tables_opening.specs.declared.faults.OpenFault.{OpenFault}
use Rattle.plan_tables_opening.specs.declared.faults.OpenFault.TheVariants as open_fault
use Rattle.plan_migrations.specs.Asking.{IsFailure}
use Rattle.plan_migrations.specs.Migrating.{IsUnmigrated, MayRenew}
use Rattle.plan_migrations.specs.Older.{IsCurrent}
use Rattle.plan_tables.specs.Stored.{HoldsSound}
use Rattle.plan_files.specs.Left.{HoldsSuch}
use Rattle.plan_files.specs.declared.refusals.Unrun.{Unrun}
use Rattle.plan_files.specs.declared.refusals.Unrun.TheVariants.{Unadopted, Unmigrated, Unopened}

-- why no stream is run over a database that was opened: by its version, or by its tables once it is of the current schema
abbrev pub IsUnfit : {D : Type 0} {g : disk.Ghosts D} (conn mid back : Held (FileStore D g)) → Unrun → Type 0
IsUnfit conn mid back (Unopened fault) = ⊥
IsUnfit conn mid back (Unmigrated fault) = IsUnmigrated (file_state conn) (file_state back) fault
IsUnfit conn mid back (Unadopted fault) =
    IsCurrent (file_state conn) (file_state mid) × IsUnopened (file_state mid) (file_state back) fault

-- the same if the database has a sound plan: memory is refused, the device failed meanwhile, or a limit on steps is
-- set
abbrev pub IsHindered : {D : Type 0} {g : disk.Ghosts D} (conn mid back : Held (FileStore D g)) → Unrun → Type 0
IsHindered conn mid back (Unopened fault) = ⊥
IsHindered conn mid back (Unmigrated fault) = IsFailure version_sql (file_state conn) (file_state back) fault
IsHindered conn mid back (Unadopted fault) = IsCommon (file_state mid) (file_state back) fault

-- what a crash may leave of it: what was found; its tables of schema 1 replaced; or the first tables of a plan next to
-- the others
abbrev pub IsSpared : State → Trees → Type 0
IsSpared s db = (db ≡ s.committed.trees) ⊎ (MayRenew s db ⊎ MakesFirst s db)

-- a connection is dropped, because no stream is run over its database; this is left of what held it
pub record IsUnmade {D : Type 0} {g : disk.Ghosts D} (conn : Held (FileStore D g)) (left : Unrun × FileStore D g)
    : Type 0 where
  -- the connection as it was when its database was of the current schema, and as it was dropped
  pub mid : Held (FileStore D g)
  pub back : Held (FileStore D g)
  -- why, by what is there
  pub opened : (cause : OpenFault) → left.0 ≡ Unopened cause → ⊥
  pub unfit : IsClean (view left.1) → IsUnfit conn mid back left.0
  pub hindered : IsClean (view left.1) → HoldsPlan (file_state conn) → (file_state conn).step_limit ≡ None
      → IsHindered conn mid back left.0
  pub quiet : IsQuiet view faults recovers is_shielded back.store left.1
  pub honest : IsClean (view left.1) → HasCleanDisk (file_state conn)
  -- whatever a crash leaves, what held it holds a database, which is spared
  pub spared : IsClean (view left.1) → IsTrue (file_state conn).is_open → (db : Trees) → recovers left.1 db
      → IsSpared (file_state conn) db
  pub images : IsClean (view left.1) → (after : Image) → (state left.1).may_leave after
      → ∥ HoldsSuch after (recovers left.1) ∥₁

-- the same, where it was of the current schema before
pub record IsUnadopted {D : Type 0} {g : disk.Ghosts D} (conn : Held (FileStore D g)) (left : Unrun × FileStore D g)
    : Type 0 where
  pub back : Held (FileStore D g)
  pub fault : OpenFault
  pub is : left.0 ≡ Unadopted fault
  pub unopened : IsClean (view left.1) → IsUnopened (file_state conn) (file_state back) fault
  pub holds : IsClean (view left.1) → HoldsPlan (file_state conn) → IsCommon (file_state conn) (file_state back) fault
  pub quiet : IsQuiet view faults recovers is_shielded back.store left.1
  pub stays : IsClean (view left.1) → (db : Trees) → recovers left.1 db → HasCleanDisk (file_state conn)
      × ((file_state conn).may_leave db ⊎ MakesFirst (file_state conn) db)
  pub honest : IsClean (view left.1) → HasCleanDisk (file_state conn)
  pub images : IsClean (view left.1) → (after : Image) → (state left.1).may_leave after
      → ∥ HoldsSuch after (recovers left.1) ∥₁

-- files that held this were opened, and no stream is run over the database in them; this is left of them
pub record HoldsNoPlan {D : Type 0} {g : disk.Ghosts D} (image : Image) (fault : Unrun) (left : FileStore D g)
    : Type 0 where
  -- the connection to the database that was found, as it was when it was queried last, and as it was dropped
  pub conn : Held (FileStore D g)
  pub mid : Held (FileStore D g)
  pub back : Held (FileStore D g)
  pub fresh : IsNew conn
  pub found : IsClean (view left) → IsOpened conn × FindsIn image (file_state conn)
  -- why, by what is there
  pub unfit : IsClean (view left) → IsUnfit conn mid back fault
  -- never for anything in the files, if they hold a sound plan
  pub hindered : IsClean (view left) → HoldsSound image → IsHindered conn mid back fault
  pub quiet : IsQuiet view faults recovers is_shielded back.store left
  -- whatever a crash leaves, the files hold a database, which is spared
  pub spared : IsClean (view left) → (db : Trees) → recovers left db → IsSpared (file_state conn) db
  pub images : IsClean (view left) → (after : Image) → (state left).may_leave after
      → ∥ HoldsSuch after (recovers left) ∥₁

-- files are refused: memory is refused, the device failed meanwhile or a limit of the files is reached, or they don't
-- hold what is needed
abbrev pub IsRefusedFor : {D : Type 0} {g : disk.Ghosts D} → Type 0 → Files D → Leftover D g → OpenFault → Type 0
IsRefusedFor {D} {g} IsWanted files left = Refuses (named (tally_of_files g (files.log, files.db)) (tally_left left))
    (faults_of g files) (faults_left left) (IsFullLeft left) IsWanted

-- files that were as at their opening are refused, and hold what they held
pub record AreRefused {D : Type 0} {g : disk.Ghosts D} (IsFresh : Bool → D → Type 0) (image : Image) (fault : Unrun)
    (left : Leftover D g) : Type 0 where
  pub files : Files D
  pub fresh : IsFresh true files.log × IsFresh false files.db
  pub cause : OpenFault
  pub is : fault ≡ Unopened cause
  pub refused : IsCleanLeft left → IsRefused files left cause
  -- never for anything in them, if they hold a sound plan
  pub hindered : IsCleanLeft left → HoldsSound image → IsRefusedFor ⊤ files left cause
  pub unharmed : IsCleanLeft left → LeavesFiles files left

-- no stream is run over the files at a path: there are none; they are refused; or the database that they hold is not that
-- of a plan, or can't be made one
pub record IsNotRun {D : Type 0} {g : disk.Ghosts D} (IsFresh : Bool → D → Type 0) (image : Image)
    (Refuses : Error → Type 0) (fault : Unrun) (remains : Option (Leftover D g)) (error : Option Error) : Type 0 where
  -- an error is what `sqlite` reported as the files were opened, and the fault is the one for it
  pub told : IfSome error (λ e. (fault ≡ Unopened (unopened_for e)) × Refuses e)
  -- and the fault is that the files are not opened only if there is such an error
  pub asked : (cause : OpenFault) → fault ≡ Unopened cause → IsSome error
  -- and there is one if no files are left
  pub none : remains ≡ None → IsSome error × ((fault ≡ Unopened open_fault.Memory) ⊎ (fault ≡ Unopened open_fault.Unopened))
  pub some : IfSome remains (λ rest. AreRefused IsFresh image fault rest
      ⊎ ((store : FileStore D g) × (rest ≡ left.Store store) × HoldsNoPlan image fault store))
