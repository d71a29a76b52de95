-- What a query of a database with any tables returns, and why it fails.
use Rattle.std.specs.Prelude.{◌≡◌, ◌⊎◌, false, ℕ, List, []}
use Rattle.sqlite.specs.Clock.{timed}
use Rattle.sqlite.specs.Effect.{Database, Reads}
use Rattle.sqlite.specs.Listing.{IsSourceOf, reads_listing}
use Rattle.sqlite.specs.Order.{Row as Values}
use Rattle.sqlite.specs.State.{IsStatement, State}
use Rattle.sqlite_disk.specs.Disk.{MoreFaults}
use Rattle.sqlite_resolve.specs.declared.compiled.Compiled.{Compiled}
use Rattle.plan_tables_schema.specs.declared.tables.Table.{Table}
use Rattle.plan_tables_opening.specs.Foreign.{LacksMemory}
use Rattle.plan_migrations.specs.declared.faults.MigrateFault.{MigrateFault}
use Rattle.plan_migrations.specs.declared.faults.MigrateFault.TheVariants.{Memory, Device}

-- these rows are what the query selects from the database
abbrev pub HasAnswer : List ℕ → State → List Values → Type 0
HasAnswer sql s rows = (c : Compiled) × (it : IsStatement s sql [] c) × (db : Database)
    × IsSourceOf (reads_listing s.now.schema sql) s.now db × Reads c.command db (timed [] c.formats it.now) rows

-- the device failed meanwhile, or the connection was shut before
abbrev pub FailsByDevice : State → State → Type 0
FailsByDevice old new = MoreFaults old.faults new.faults ⊎ (old.is_open ≡ false)

-- why the query fails: lack of memory, or the device
abbrev pub IsFailure : List ℕ → State → State → MigrateFault → Type 0
IsFailure sql old new Memory = LacksMemory sql old new
IsFailure sql old new Device = FailsByDevice old new
IsFailure sql old new _ = ⊥

-- the same of a query on one of the tables
abbrev pub IsFailureOfOne : (Table → List ℕ) → State → State → MigrateFault → Type 0
IsFailureOfOne sql old new Memory = (t : Table) × LacksMemory (sql t) old new
IsFailureOfOne sql old new Device = FailsByDevice old new
IsFailureOfOne sql old new _ = ⊥
