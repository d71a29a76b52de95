-- SELECT of all columns of each table, wherever it stands.
use Rattle.std.proofs.Common.{ℕ, refl}
use Rattle.sqlite_schema.specs.declared.schema.Schema.{Schema}
use Rattle.sqlite_tied.specs.Compute.{everything}
use Rattle.plan_tables_schema.specs.Schema.{table_at, name}
use Rattle.plan_tables_schema.specs.Texts.{select_sql}
use Rattle.plan_tables_schema.specs.Cells.{column_names, select_terms}
use Rattle.plan_tables_schema.specs.declared.tables.Table.{Table}
use Rattle.plan_tables_schema.specs.declared.tables.Table.TheVariants.{Meta}
use Rattle.plan_tables_schema.proofs.ColumnQueries.{IsBareSelect, ShowsColumns, columns_show}
use Rattle.plan_tables_schema.proofs.QueryMeanings.{ShowsRows}
use Rattle.plan_tables_schema.specs.Places.{TableIsAt}

select_says : (t : Table) → IsBareSelect (name t) (select_sql t) (column_names t)
unfolding everything
select_says Meta = (refl, refl, refl, refl, refl, refl)
select_says t = (refl, refl, refl, refl, refl, refl)

select_fits : (tree : ℕ) (t : Table) → ShowsColumns (table_at tree t) (column_names t) (select_terms t)
unfolding everything
select_fits tree Meta = (refl, refl, refl, refl, refl)
select_fits tree t = (refl, refl, refl, refl, refl)

pub selects : (schema : Schema) (tree at : ℕ) (t : Table) → TableIsAt schema (table_at tree t) at → ShowsRows schema (select_sql t) tree (select_terms t) (column_names t)
selects schema tree at t it = columns_show schema (table_at tree t) at it (select_sql t) (column_names t) (select_terms t)
    (select_says t) (select_fits tree t)
