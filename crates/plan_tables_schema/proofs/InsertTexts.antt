-- What the texts of INSERT say, once their table is known.
use Rattle.std.proofs.Common.{ℕ, ◌*◌, length, refl}
use Rattle.sqlite.specs.Source.TheVariants.{Values}
use Rattle.sqlite_schema.specs.declared.schema.Schema.{Schema}
use Rattle.sqlite_resolve.specs.Compile.{first}
use Rattle.sqlite_tied.specs.Compute.{everything}
use Rattle.plan_tables_schema.specs.Schema.{table_at}
use Rattle.plan_tables_schema.specs.Texts.{insert_sql, several_sql}
use Rattle.plan_tables_schema.specs.Cells.{column_names, insert_terms, rows_at_once, several_terms, width}
use Rattle.plan_tables_schema.specs.declared.tables.Table.{Table}
use Rattle.plan_tables_schema.specs.declared.tables.Table.TheVariants.{Meta}
use Rattle.plan_tables_schema.proofs.Written.{IfRead, Inserts}

abbrev pub SaysInsert : Schema → ℕ → Table → Type 0
SaysInsert schema tree t = IfRead (first (insert_sql t)) (Inserts schema (table_at tree t) (Values (insert_terms t) (width t)) (length (insert_sql t)) (length (column_names t)))

pub insert_says : (schema : Schema) (tree : ℕ) (t : Table) → SaysInsert schema tree t
unfolding everything
insert_says schema tree Meta = record { whole = refl; parameters = refl; is = refl; target = refl; timeless = refl; rows = refl }
insert_says schema tree t = record { whole = refl; parameters = refl; is = refl; target = refl; timeless = refl; rows = refl }

-- the same of several rows
abbrev pub SaysSeveral : Schema → ℕ → Table → Type 0
SaysSeveral schema tree t = IfRead (first (several_sql t)) (Inserts schema (table_at tree t) (Values (several_terms t) (width t)) (length (several_sql t)) (rows_at_once t * length (column_names t)))

pub several_says : (schema : Schema) (tree : ℕ) (t : Table) → SaysSeveral schema tree t
unfolding everything
several_says schema tree Meta = record { whole = refl; parameters = refl; is = refl; target = refl; timeless = refl; rows = refl }
several_says schema tree t = record { whole = refl; parameters = refl; is = refl; target = refl; timeless = refl; rows = refl }
