-- The fault of a call that failed, and its number.
use Rattle.std.specs.Prelude.{ℕ}
use Rattle.sqlite.specs.declared.error.Error.{Error}
use Rattle.sqlite.specs.declared.error.Error.TheVariants.{SqliteFailure}
use Rattle.sqlite.specs.declared.error.ErrorCode.TheVariants.{OutOfMemory, SystemIoFailure, DatabaseCorrupt, DiskFull}
use Rattle.sqlite.specs.declared.error.ErrorCode.TheVariants.{Closed}
use Rattle.plan_tables_opening.specs.declared.faults.OpenFault.{OpenFault}
use Rattle.plan_tables_opening.specs.declared.faults.OpenFault.TheVariants.{Memory, Device, Unopened, Tables, Rows}

-- lack of memory, a failure of the device, or else this one
abbrev pub fault_for : Error → OpenFault → OpenFault
fault_for (SqliteFailure OutOfMemory) other = Memory
fault_for (SqliteFailure SystemIoFailure) other = Device
fault_for (SqliteFailure DatabaseCorrupt) other = Device
fault_for (SqliteFailure DiskFull) other = Device
fault_for (SqliteFailure Closed) other = Device
fault_for _ other = other

-- why a file was not opened: a file whose bytes are no database is not opened, and is no failure of the device
abbrev pub unopened_for : Error → OpenFault
unopened_for (SqliteFailure OutOfMemory) = Memory
unopened_for (SqliteFailure SystemIoFailure) = Device
unopened_for (SqliteFailure DiskFull) = Device
unopened_for (SqliteFailure Closed) = Device
unopened_for _ = Unopened

-- the number that a program reports
abbrev pub number_of : OpenFault → ℕ
number_of Memory = 40
number_of Device = 41
number_of Unopened = 50
number_of Tables = 51
number_of Rows = 52
