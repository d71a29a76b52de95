-- The texts of the statements on each table.
use Rattle.std.specs.Prelude.{ℕ, List}
use Rattle.plan_tables_schema.specs.Cells.{rows_at_once}
use Rattle.plan_tables_schema.specs.Form.{create_text, delete_text, insert_text, select_text, several_text}
use Rattle.plan_tables_schema.specs.Forms.{form}
use Rattle.plan_tables_schema.specs.declared.tables.Table.{Table}

-- makes the table
abbrev pub create_sql : Table → List ℕ
create_sql t = create_text (form t)

-- inserts a row of values, a parameter for each column
abbrev pub insert_sql : Table → List ℕ
insert_sql t = insert_text (form t)

-- inserts several rows, a parameter for each column of each row
abbrev pub several_sql : Table → List ℕ
several_sql t = several_text (rows_at_once t) (form t)

-- deletes the rows of a key
abbrev pub delete_sql : Table → List ℕ
delete_sql t = delete_text (form t)

-- selects all rows of the table
abbrev pub select_sql : Table → List ℕ
select_sql t = select_text (form t)
