-- The tables of a content of which nothing is known.
use Rattle.std.specs.Prelude.{◌≡◌, None, IsTrue}
use Rattle.sqlite.specs.Change.{KeepsRows}
use Rattle.sqlite.specs.Effect.{Database, IsDatabase}
use Rattle.sqlite.specs.State.{State}
use Rattle.app_definitions.specs.Options.{default_options}
use Rattle.plan_tables_schema.specs.Free.{with_plan}
use Rattle.plan_tables_schema.specs.Rows.{IsPlan, Tables, no_rows, tables_of, with_cells}
use Rattle.plan_tables_schema.specs.declared.tables.Table.TheVariants.{Meta}
use Rattle.plan_tables_content.specs.Content.{meta_values}

-- one row: there is no plan, and the options are those that hold where none are given
abbrev pub first_rows : Tables
first_rows = with_cells Meta (meta_values None 0 default_options) no_rows

-- the tables of a plan come after those that were there, and these keep their rows
pub record IsBeside (old new : Database) : Type 0 where
  pub schema : new.schema ≡ with_plan old.schema
  pub others : KeepsRows old.schema.tables old.trees new.trees

-- in a transaction the database has the tables of a plan and those with which it began, and these rows in them, and
-- obeys its rules
pub record IsMadeFirst (base : Database) (s : State) : Type 0 where
  pub beside : IsBeside base s.now
  pub plan : IsPlan s
  pub rows_are : tables_of s.now.trees ≡ first_rows
  pub obeys : IsDatabase s.now
  pub mode : IsTrue s.in_transaction

-- and they are so once that transaction ended
pub record IsNewPlan (old new : State) : Type 0 where
  pub beside : IsBeside old.now new.now
  pub plan : IsPlan new
  pub rows_are : tables_of new.now.trees ≡ first_rows
