-- The values of a row as they are given and shown.
use Rattle.std.specs.Prelude.{ℕ, zero, suc, ◌+◌, List, [], ◌∷◌, length}
use Rattle.sqlite.specs.Order.{Row}
use Rattle.sqlite.specs.Term.{Term}
use Rattle.plan_tables_schema.specs.Form.{delete_tests_of, insert_terms_of, names, select_terms_of, several_terms_of}
use Rattle.plan_tables_schema.specs.Forms.{form}
use Rattle.plan_tables_schema.specs.declared.tables.Table.{Table}
use Rattle.plan_tables_schema.specs.declared.tables.Table.TheVariants.{LongTerm, Current, History, Deletion, Dependency}
use Rattle.sqlite_value.specs.Order.{column}

abbrev pub column_names : Table → List (List ℕ)
column_names t = names (form t)

-- a row as it is stored, of the values given: the rowid, or NULL where one is chosen; and its columns
abbrev pub insert_terms : Table → List Term
insert_terms t = insert_terms_of (form t)

-- how many rows one statement inserts that inserts several
abbrev pub rows_at_once : Table → ℕ
rows_at_once LongTerm = 3
rows_at_once Current = 3
rows_at_once History = 3
rows_at_once Deletion = 3
rows_at_once Dependency = 9
rows_at_once _ = 1

-- their rows as they are stored, one after another
abbrev pub several_terms : Table → List Term
several_terms t = several_terms_of (rows_at_once t) 0 (form t)

-- so many of the values, from that place on
abbrev pub values_from : ℕ → ℕ → Row → Row
values_from zero n values = []
values_from (suc m) n values = column values n ∷ values_from m (n + 1) values

-- those of so many rows, each of which has so many
abbrev pub rows_from : ℕ → ℕ → ℕ → Row → List Row
rows_from zero w n values = []
rows_from (suc m) w n values = values_from w n values ∷ rows_from m w (n + w) values

-- the values of each row, if those of several rows are given one after another
abbrev pub rows_given : Table → Row → List Row
rows_given t values = rows_from (rows_at_once t) (length (column_names t)) 0 values

-- how many values are stored
abbrev pub width : Table → ℕ
width t = length (form t).columns + 1

-- a row as it is shown: its columns
abbrev pub select_terms : Table → List Term
select_terms t = select_terms_of (form t)

-- a row has the key
abbrev pub delete_tests : Table → List Term
delete_tests t = delete_tests_of (form t)
