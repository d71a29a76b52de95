-- Rows that a table stores as they are.
use Rattle.std.specs.Prelude.{◌≡◌, ◌↔◌, ℕ, List, map, Contains}
use Rattle.sqlite.specs.Order.{Row as Values}
use Rattle.sqlite.specs.Values.{bound_value}
use Rattle.plan_tables_schema.specs.Rows.{AreOfKinds}
use Rattle.plan_tables_schema.specs.declared.tables.Table.{Table}
use Rattle.app_definitions.specs.declared.definitions.Definitions.{Definitions}
use Rattle.app_definitions.specs.declared.options.Options.{Options}
use Rattle.plan_tables_content.specs.Content.{ByName, IsApplicationRow, IsOfSome}
use Rattle.plan_tables_content.specs.Facts.{IsCalendarRow, IsCycleRow, IsOffsetRow, IsPeriodRow, IsPredecessorRow}
use Rattle.plan_tables_definitions.specs.Representable.{AreRepresentable}
use Rattle.plan_tables_definitions.specs.declared.stored.StoredRows.{StoredRows}

-- no value changes as it is bound, and none as it is stored
pub record IsStorable (t : Table) (values : Values) : Type 0 where
  pub kinds : AreOfKinds t values
  pub bound : map bound_value values ≡ values

-- the rows are those of the definitions, and no others
abbrev pub AreRowsOf : {D : Type 0} → (List ℕ → D → Values → Type 0) → List Values → ByName D → Type 0
AreRowsOf {D} IsRow rows definitions = (values : Values) → Contains rows values ↔ IsOfSome IsRow definitions values

-- the rows of the six tables are those of the definitions, which they distinguish from all others
pub record HaveRows (stored : StoredRows) (given : Options) (all : Definitions) : Type 0 where
  pub calendars : AreRowsOf IsCalendarRow stored.calendars.items all.calendars
  pub periods : AreRowsOf IsPeriodRow stored.periods.items all.periods
  pub applications : AreRowsOf IsApplicationRow stored.applications.items all.applications
  pub run_cycles : AreRowsOf IsCycleRow stored.run_cycles.items all.run_cycles
  pub offsets : AreRowsOf IsOffsetRow stored.offsets.items all.run_cycles
  pub predecessors : AreRowsOf IsPredecessorRow stored.predecessors.items all.predecessors
  pub options : all.options ≡ given
  pub representable : AreRepresentable all
