-- The rows of the tables of definitions, and rowids.
use Rattle.std.specs.Prelude.{Contains}
use Rattle.plan_tables_schema.specs.Rows.{HaveRowids, Tables}
use Rattle.plan_tables_schema.specs.declared.tables.Table.{Table}
use Rattle.plan_tables_schema.specs.declared.tables.Table.TheVariants as table
use Rattle.plan_tables_definitions.specs.declared.stored.StoredRows.{StoredRows}
use Rattle.plan_tables_loading.specs.Tables.{ShowsOnly}

-- the tables of the definitions show these rows
pub record RepresentStored (all : Tables) (stored : StoredRows) : Type 0 where
  pub calendar_rows : ShowsOnly all table.CalendarEntry (λ v. Contains stored.calendars.items v)
  pub period_rows : ShowsOnly all table.Period (λ v. Contains stored.periods.items v)
  pub application_rows : ShowsOnly all table.Application (λ v. Contains stored.applications.items v)
  pub cycle_rows : ShowsOnly all table.RunCycle (λ v. Contains stored.run_cycles.items v)
  pub offset_rows : ShowsOnly all table.Offset (λ v. Contains stored.offsets.items v)
  pub predecessor_rows : ShowsOnly all table.Predecessor (λ v. Contains stored.predecessors.items v)

-- no table has a row without a rowid, or two with the same
abbrev pub AllHaveRowids : Tables → Type 0
AllHaveRowids all = (t : Table) → HaveRowids (all t)

-- the same of the tables whose rows are read without their rowids
pub record HaveHiddenRowids (all : Tables) : Type 0 where
  pub calendars : HaveRowids (all table.CalendarEntry)
  pub periods : HaveRowids (all table.Period)
  pub applications : HaveRowids (all table.Application)
  pub run_cycles : HaveRowids (all table.RunCycle)
  pub offsets : HaveRowids (all table.Offset)
  pub predecessors : HaveRowids (all table.Predecessor)
  pub links : HaveRowids (all table.LinkInForce)
