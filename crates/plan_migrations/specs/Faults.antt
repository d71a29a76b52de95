-- The number of a fault.
use Rattle.std.specs.Prelude.{ℕ}
use Rattle.plan_tables_opening.specs.declared.faults.OpenFault.{OpenFault}
use Rattle.plan_migrations.specs.declared.faults.MigrateFault.{MigrateFault}
use Rattle.plan_migrations.specs.declared.faults.MigrateFault.TheVariants.{UnknownVersion, OtherTable, Rows, Memory, Device}

-- the number that a program reports
abbrev pub number_of : MigrateFault → ℕ
number_of UnknownVersion = 50
number_of OtherTable = 51
number_of Rows = 52
number_of Memory = 40
number_of Device = 41

-- what is reported of tables of a plan in memory that are not opened: that their content is not sound, or else lack of
-- memory
abbrev pub fault_in_memory : OpenFault → MigrateFault
fault_in_memory OpenFault.Rows = Rows
fault_in_memory _ = Memory
