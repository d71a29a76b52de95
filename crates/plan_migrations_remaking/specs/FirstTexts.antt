-- The texts of the statements on the tables of schema 1.
use Rattle.std.specs.Prelude.{ℕ, List}
use Rattle.plan_tables_schema.specs.Form.{create_text, drop_text, select_text}
use Rattle.plan_tables_schema.specs.Forms.{form}
use Rattle.plan_tables_schema.specs.declared.tables.Table.{Table}
use Rattle.plan_tables_schema.specs.declared.tables.Table.TheVariants.{Meta}
use Rattle.plan_migrations_remaking.specs.FirstSchema.{first_form}

-- makes the table
abbrev pub first_create_sql : Table → List ℕ
first_create_sql t = create_text (first_form t)

-- shows all rows of the table
abbrev pub first_select_sql : Table → List ℕ
first_select_sql t = select_text (first_form t)

-- drops the table
abbrev pub drop_sql : Table → List ℕ
drop_sql Meta = drop_text (form Meta)
drop_sql t = drop_text (form t)
