-- What a run over files does.
use Rattle.std.specs.Prelude.{◌≡◌, ◌⊎◌, Bool, IfErr, IfOk, IsTrue, OnOk, Result}
use Rattle.sqlite.specs.Files.{file_state}
use Rattle.sqlite.specs.Held.{Held}
use Rattle.sqlite.specs.State.{HasCleanDisk}
use Rattle.sqlite_disk.specs.declared.Disk as disk
use Rattle.sqlite_disk.specs.declared.Files.{Files}
use Rattle.sqlite_store.specs.declared.store.FileStore.{FileStore}
use Rattle.sqlite_wal.specs.Files.{outcomes}
use Rattle.sqlite_wal.specs.Reads.{AreClean}
use Rattle.sqlite_wal.specs.Recovery.{Image}
use Rattle.plan_files_closing.specs.declared.closing.ClosedFiles.{ClosedFiles}
use Rattle.planner_machine.specs.Sound.{IsSound}
use Rattle.planner_cli.specs.Plans.{RanPlan, StoppedPlan}
use Rattle.planner_cli.specs.Runs.{Ends}
use Rattle.planner_cli.specs.declared.faults.RunFault.{RunFault}
use Rattle.planner_cli.specs.declared.tally.Tally.{Tally}
use Rattle.plan_tables_opening.specs.Opened.{IsToldBy}
use Rattle.plan_tables.specs.Found.{IsFoundIn}
use Rattle.plan_files.specs.FileRuns.{Leaves}
use Rattle.plan_files.specs.Found.{IsFirstFoundIn, IsToldNow}
use Rattle.plan_files.specs.Left.{HoldsLed, HoldsLedAlone}

-- until both files were closed, only bytes were read of them that somebody wrote
abbrev pub AreHonest : {D : Type 0} (g : disk.Ghosts D) → Files D → Type 0
AreHonest g files = AreClean g files.log files.db

-- a run and what it leaves in its files: what its replies print leads from the one content to the other, which after a
-- fault is some content that such a run may leave, whatever happened to the store. A store that queries its tables
-- answers by what it reads, so nothing is said if bytes were read that nobody wrote
pub record RunsFiles {D : Type 0} (g : disk.Ghosts D) (ends : Ends) (outcome : Result Tally RunFault) (is_whole : Bool)
    (go : ClosedFiles D) : Type 0 where
  pub ran : AreHonest g go.files → IfOk outcome (RanPlan ends)
  pub fault : AreHonest g go.files → IfErr outcome (StoppedPlan ends)
  -- whatever a crash left of both files since, and whether the log was copied or not, they hold a database with the
  -- content that the run led to
  pub holds : AreHonest g go.files → (left : Image) → outcomes g go.files.log go.files.db left
      → ∥ HoldsLed left (Leaves ends outcome) ∥₁
  -- if the store was whole then, they hold what it kept: after a fault of memory or of the reader the content after
  -- the acknowledged statements, and after one of the writer that which `fault` names, and no other
  pub settled : IsTrue is_whole → AreHonest g go.files → (left : Image) → outcomes g go.files.log go.files.db left
      → ∥ HoldsLed left (λ c. c ≡ ends.after) ∥₁
  -- and once the log was copied into it, so does the database file alone
  pub alone : OnOk go.copied (AreHonest g go.files → (left : Image) → outcomes g go.files.log go.files.db left
      → ∥ HoldsLedAlone left (Leaves ends outcome) ∥₁)

-- a run over a connection that was open: what its database had when it began, which is sound, and what its files hold in
-- the end
pub record RunsOverConnection {D : Type 0} {g : disk.Ghosts D} (conn : Held (FileStore D g)) (ends : Ends)
    (outcome : Result Tally RunFault) (is_whole : Bool) (go : ClosedFiles D) : Type 0 where
  pub honest : AreHonest g go.files → HasCleanDisk (file_state conn)
  pub told : AreHonest g go.files → IsToldBy (file_state conn).now ends.before
  pub sound : AreHonest g go.files → IsSound ends.before
  pub runs : RunsFiles g ends outcome is_whole go

-- the same, if tables of schema 1 were replaced before
pub record RunsMigrated {D : Type 0} {g : disk.Ghosts D} (conn : Held (FileStore D g)) (ends : Ends)
    (outcome : Result Tally RunFault) (is_whole : Bool) (go : ClosedFiles D) : Type 0 where
  pub honest : AreHonest g go.files → HasCleanDisk (file_state conn)
  pub told : AreHonest g go.files → IsToldNow (file_state conn) ends.before
  pub sound : AreHonest g go.files → IsSound ends.before
  pub runs : RunsFiles g ends outcome is_whole go

-- a run over files, whatever they held: the content before is the one found in them, nothing known if they held no
-- plan, or that of their tables of schema 1
pub record RunsOverFiles {D : Type 0} (g : disk.Ghosts D) (image : Image) (ends : Ends)
    (outcome : Result Tally RunFault) (is_whole : Bool) (go : ClosedFiles D) : Type 0 where
  pub found : AreHonest g go.files → IsFoundIn image ends.before ⊎ IsFirstFoundIn image ends.before
  pub sound : AreHonest g go.files → IsSound ends.before
  pub runs : RunsFiles g ends outcome is_whole go
