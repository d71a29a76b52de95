-- A database of other tables.
use Rattle.std.specs.Prelude.{◌≡◌, ◌⊎◌, false, ℕ, List, [], codes}
use Rattle.sqlite.specs.Order.{Row as Values}
use Rattle.sqlite.specs.State.{State, FailsToQuery, Shown}
use Rattle.sqlite.specs.declared.error.Error.{Error}
use Rattle.sqlite_disk.specs.Disk.{MoreFaults}
use Rattle.plan_tables_opening.specs.Faults.{fault_for}
use Rattle.plan_tables_opening.specs.Held.{AreKnown}
use Rattle.plan_tables_opening.specs.declared.faults.OpenFault.{OpenFault}
use Rattle.plan_tables_opening.specs.declared.faults.OpenFault.TheVariants.{Memory, Device, Unopened, Rows, Tables as OtherTables}

-- shows the version of a plan, whatever else the table has: in the second column, where a row of the table has it
abbrev pub version_sql : List ℕ
version_sql = codes "SELECT version, version FROM plan_meta"

-- it fails to show what the text asks for, for want of memory
abbrev pub LacksMemory : List ℕ → State → State → Type 0
LacksMemory sql old new = (e : Error) × FailsToQuery sql [] old new e × (fault_for e Unopened ≡ Memory)

-- it refuses to show what the text asks for, neither for want of memory nor for the device
abbrev pub RefusesToShow : List ℕ → State → State → Type 0
RefusesToShow sql old new = (e : Error) × FailsToQuery sql [] old new e × (fault_for e Unopened ≡ Unopened)

-- it refuses to show the version of a plan
abbrev pub RefusesVersion : State → State → Type 0
RefusesVersion = RefusesToShow version_sql

-- why a database of other tables is not opened: when the version of a plan is read, it fails for lack of memory; the
-- device failed meanwhile, or the connection was closed before; or by what it shows then: a known one, none that is
-- known, or nothing, because it refuses
abbrev pub IsForeign : State → State → OpenFault → Type 0
IsForeign old new Memory = LacksMemory version_sql old new
IsForeign old new Device = MoreFaults old.faults new.faults ⊎ (old.is_open ≡ false)
IsForeign old new OtherTables = (rows : List Values) × Shown version_sql [] old new rows × AreKnown rows
IsForeign old new Unopened =
    RefusesVersion old new ⊎ ((rows : List Values) × Shown version_sql [] old new rows × (AreKnown rows → ⊥))
IsForeign old new Rows = ⊥
