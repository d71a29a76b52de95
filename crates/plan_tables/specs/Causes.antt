-- Why a change is not made in the tables.
use Rattle.std.specs.Prelude.{◌≡◌, ◌⊎◌, ◌≤◌, IsSome, None, Option, Some}
use Rattle.sqlite.specs.State.{State}
use Rattle.sqlite.specs.declared.error.Error.{Error}
use Rattle.sqlite.specs.declared.error.Error.TheVariants.{SqliteFailure}
use Rattle.sqlite.specs.declared.error.ErrorCode.TheVariants.{OutOfMemory, SystemIoFailure, DatabaseCorrupt, DiskFull}
use Rattle.sqlite.specs.declared.error.ErrorCode.TheVariants.{Closed}
use Rattle.sqlite_disk.specs.Disk.{MoreFaults}
use Rattle.planner_machine.specs.Content.{Content}
use Rattle.plan_store.specs.declared.changes.Change.{Change}
use Rattle.plan_store.specs.declared.stores.StoreFault.{StoreFault}
use Rattle.plan_store.specs.declared.stores.StoreFault.TheVariants.{Device, Memory}
use Rattle.plan_tables_schema.specs.Rows.{tables_of}
use Rattle.plan_tables_schema.specs.Schema.{HasOnlyKeyIndexes}
use Rattle.plan_tables_constraints.specs.Accepted.{AreAccepted}

-- lack of memory, a failure of the device or a connection that was closed, or neither
abbrev pub fault_in : Error → Option StoreFault
fault_in (SqliteFailure OutOfMemory) = Some Memory
fault_in (SqliteFailure SystemIoFailure) = Some Device
fault_in (SqliteFailure DatabaseCorrupt) = Some Device
fault_in (SqliteFailure DiskFull) = Some Device
fault_in (SqliteFailure Closed) = Some Device
fault_in _ = None

-- why files could not be closed: want of memory, or else the device
abbrev pub closing_fault : Error → StoreFault
closing_fault (SqliteFailure OutOfMemory) = Memory
closing_fault _ = Device

-- the database can accept a change of the content: no index made by hand is of its tables, and these accept it
abbrev pub CanAccept : State → Content → Change → Type 0
CanAccept s c change = HasOnlyKeyIndexes s.now.schema × AreAccepted c change (tables_of s.now.trees)

-- of an open connection the device failed meanwhile, or a limit on steps is set
abbrev pub HasFailed : State → State → Type 0
HasFailed old new = MoreFaults old.faults new.faults ⊎ IsSome old.step_limit

-- the device failed no less often by its count, and the limit on steps is the same
pub record CountsOn (old new : State) : Type 0 where
  pub counts : old.faults ≤ new.faults
  pub limit : new.step_limit ≡ old.step_limit
