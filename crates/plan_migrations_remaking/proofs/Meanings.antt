-- What the texts mean where the tables of schema 1 stand, or are made.
use Rattle.std.proofs.Common.{◌≡◌, ℕ, [], List, length, false, None, Some, Ok, Err, refl}
use Rattle.sqlite.specs.Command.TheVariants.{CreateTable, DropTable}
use Rattle.sqlite.specs.Compile.{table_defined_by}
use Rattle.sqlite.specs.Change.{created}
use Rattle.sqlite.specs.Does.{lacks_sequence}
use Rattle.sqlite.specs.Listing.{understood}
use Rattle.sqlite.specs.Schema.{Schema}
use Rattle.sqlite.proofs.Callers.{statement_of}
use Rattle.sqlite_ast.specs.declared.Statement.TheVariants as written
use Rattle.sqlite_catalog.specs.Change.{is_used}
use Rattle.sqlite_resolve.specs.Compile as compile
use Rattle.sqlite_resolve.specs.Compile.{first}
use Rattle.sqlite_resolve.specs.Lowering.{Checked}
use Rattle.sqlite_schema.specs.Names.{table_named, view_named}
use Rattle.sqlite_syntax.specs.declared.statement.Parsed.{Parsed}
use Rattle.sqlite_tied.specs.Compute.{everything}
use Rattle.plan_tables_schema.proofs.ColumnQueries.{IsBareSelect, ShowsColumns, columns_show}
use Rattle.plan_tables_schema.proofs.CreateLemmas.{Creates, creates, defined_so}
use Rattle.plan_tables_schema.proofs.MeaningLemmas.{Means, Plans, means}
use Rattle.plan_tables_schema.proofs.QueryMeanings.{ShowsRows}
use Rattle.plan_tables_schema.proofs.Written.{IfRead}
use Rattle.plan_tables_schema.specs.Places.{TableIsAt}
use Rattle.plan_tables_schema.specs.Schema.{name}
use Rattle.plan_tables_schema.specs.declared.tables.Table.{Table}
use Rattle.plan_tables_schema.specs.declared.tables.Table.TheVariants.{Meta}
use Rattle.plan_migrations_remaking.specs.FirstSchema.{first_after, first_before, first_names, first_table_at, first_terms}
use Rattle.plan_migrations_remaking.specs.FirstTexts.{drop_sql, first_create_sql, first_select_sql}

-- ---- a table is made

create_says : (t : Table) → IfRead (first (first_create_sql t)) (Creates (name t) (first_create_sql t) (first_table_at 0 t))
unfolding everything
create_says Meta = record { def = _; whole = refl; parameters = refl; text = refl; is = refl; named = refl; free = refl; defined = refl; fit = refl }
create_says t = record { def = _; whole = refl; parameters = refl; text = refl; is = refl; named = refl; free = refl; defined = refl; fit = refl }

pub create_means : (schema : Schema) (t : Table) → is_used schema (name t) ≡ false
    → Means schema (first_create_sql t) CreateTable 0
    × (statement_of (first_create_sql t) (understood schema (first_create_sql t)) ≡ first_create_sql t)
create_means schema t free = creates (name t) (first_create_sql t) (first_table_at 0 t) (create_says t) schema free

pub create_defines : (t : Table) → table_defined_by (first_create_sql t) ≡ Ok (first_table_at 0 t)
create_defines t = defined_so (name t) (first_create_sql t) (first_table_at 0 t) (create_says t)

-- in an empty database one after the other can be made
pub unused : (t : Table) → is_used (first_before t) (name t) ≡ false
unfolding everything
unused Meta = refl
unused t = refl

pub uncounted : (t : Table) → lacks_sequence (created (first_before t) (first_table_at 0 t)) ≡ false
uncounted Meta = refl
uncounted t = refl

pub made : (t : Table) → created (first_before t) (first_table_at 0 t) ≡ first_after t
made Meta = refl
made t = refl

-- ---- a table is taken away

abbrev IsDropText : List ℕ → ℕ → Parsed → Type 0
IsDropText name size p = (p.statement ≡ written.DropTable false name) × (p.formats ≡ []) × (p.tail ≡ size)
    × (length p.names ≡ 0) × (compile.is_reserved name ≡ false)

drop_says : (t : Table) → IfRead (first (drop_sql t)) (IsDropText (name t) (length (drop_sql t)))
unfolding everything
drop_says Meta = (refl, refl, refl, refl, refl)
drop_says t = (refl, refl, refl, refl, refl)

drop_planned : (schema : Schema) (p : Parsed) (name : List ℕ) (at : ℕ) → p.statement ≡ written.DropTable false name
    → p.formats ≡ [] → compile.is_reserved name ≡ false → view_named schema name ≡ None → table_named schema name ≡ Some at
    → compile.planned schema p ≡ Ok ([], (DropTable at, None))
unfolding compile.planned compile.timed compile.meaning compile.returning compile.command compile.drop_table
drop_planned schema p name at is timeless unreserved unviewed named = rw (is, timeless, unreserved, unviewed, named) refl

drop_plans : (schema : Schema) (name : List ℕ) (at size : ℕ) → view_named schema name ≡ None
    → table_named schema name ≡ Some at → (r : Checked Parsed) → IfRead r (IsDropText name size)
    → IfRead r (Plans schema (DropTable at) size 0)
drop_plans schema name at size unviewed named (Err e) h = absurd h
drop_plans schema name at size unviewed named (Ok p) h =
    (drop_planned schema p name at h.0 h.1 h.4 unviewed named, h.2, h.3)

pub drop_means : (schema : Schema) (t : Table) (at : ℕ) → view_named schema (name t) ≡ None
    → table_named schema (name t) ≡ Some at → Means schema (drop_sql t) (DropTable at) 0
drop_means schema t at unviewed named = means schema (drop_sql t) _ _ (first (drop_sql t)) refl
    (drop_plans schema (name t) at _ unviewed named (first (drop_sql t)) (drop_says t))

-- ---- its rows are read

select_says : (t : Table) → IsBareSelect (name t) (first_select_sql t) (first_names t)
unfolding everything
select_says Meta = (refl, refl, refl, refl, refl, refl)
select_says t = (refl, refl, refl, refl, refl, refl)

select_fits : (tree : ℕ) (t : Table) → ShowsColumns (first_table_at tree t) (first_names t) (first_terms t)
unfolding everything
select_fits tree Meta = (refl, refl, refl, refl, refl)
select_fits tree t = (refl, refl, refl, refl, refl)

pub selects : (schema : Schema) (tree at : ℕ) (t : Table) → TableIsAt schema (first_table_at tree t) at
    → ShowsRows schema (first_select_sql t) tree (first_terms t) (first_names t)
selects schema tree at t it = columns_show schema (first_table_at tree t) at it (first_select_sql t) (first_names t)
    (first_terms t) (select_says t) (select_fits tree t)
