-- What the texts of CREATE TABLE say, and what they mean where their names are free.
use Rattle.std.proofs.Common.{◌≡◌, false, Ok, refl}
use Rattle.sqlite.specs.Command.TheVariants.{CreateTable}
use Rattle.sqlite.specs.Listing.{understood}
use Rattle.sqlite.specs.Schema.{Schema}
use Rattle.sqlite.proofs.Callers.{statement_of}
use Rattle.sqlite_catalog.specs.Change.{is_used}
use Rattle.sqlite_resolve.specs.Compile.{first, table_defined_by}
use Rattle.sqlite_tied.specs.Compute.{everything}
use Rattle.plan_tables_schema.specs.Schema.{table_at, name}
use Rattle.plan_tables_schema.specs.Texts.{create_sql}
use Rattle.plan_tables_schema.specs.declared.tables.Table.{Table}
use Rattle.plan_tables_schema.specs.declared.tables.Table.TheVariants.{Meta}
use Rattle.plan_tables_schema.proofs.Written.{IfRead}
use Rattle.plan_tables_schema.proofs.MeaningLemmas.{Means}
use Rattle.plan_tables_schema.proofs.CreateLemmas.{Creates, creates, defined_so}

create_says : (t : Table) → IfRead (first (create_sql t)) (Creates (name t) (create_sql t) (table_at 0 t))
unfolding everything
create_says Meta = record { def = _; whole = refl; parameters = refl; text = refl; is = refl; named = refl; free = refl; defined = refl; fit = refl }
create_says t = record { def = _; whole = refl; parameters = refl; text = refl; is = refl; named = refl; free = refl; defined = refl; fit = refl }

-- where the name is free, the table is made, by the whole text
pub create_means : (schema : Schema) (t : Table) → is_used schema (name t) ≡ false
    → Means schema (create_sql t) CreateTable 0 × (statement_of (create_sql t) (understood schema (create_sql t)) ≡ create_sql t)
create_means schema t free = creates (name t) (create_sql t) (table_at 0 t) (create_says t) schema free

pub create_defines : (t : Table) → table_defined_by (create_sql t) ≡ Ok (table_at 0 t)
create_defines t = defined_so (name t) (create_sql t) (table_at 0 t) (create_says t)
