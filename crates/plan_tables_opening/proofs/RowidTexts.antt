-- The texts that show rowids, wherever their tables stand.
use Rattle.std.proofs.Common.{◌≡◌, ℕ, [], ◌∷◌, length, List, None, refl, true, subst}
use Rattle.std.specs.Prelude.{codes}
use Rattle.sqlite_schema.specs.declared.schema.Schema.{Schema}
use Rattle.sqlite_schema.specs.Names.{column_named}
use Rattle.sqlite_resolve.specs.Compile.{first}
use Rattle.sqlite_resolve.specs.Scope.{is_rowid}
use Rattle.sqlite_typing.specs.Types.{are_typed, row_classes}
use Rattle.sqlite_tied.specs.Compute.{everything}
use Rattle.plan_tables_schema.specs.Places.{TableIsAt}
use Rattle.plan_tables_schema.specs.Schema.{name, table_at}
use Rattle.plan_tables_schema.specs.Form.{has_rowid, names, rowids_name}
use Rattle.plan_tables_schema.specs.Forms.{form}
use Rattle.plan_tables_schema.specs.declared.tables.Table.{Table}
use Rattle.plan_tables_schema.specs.declared.tables.Table.TheVariants.{Meta}
use Rattle.plan_tables_schema.proofs.QueryMeanings.{ShowsRows}
use Rattle.plan_tables_schema.proofs.RowidQueries.{rowid_shows}
use Rattle.plan_tables_schema.proofs.Written.{IfRead}
use Rattle.plan_tables_schema.proofs.WrittenQueries.{IsBareText, rowid_head, shown_column}
use Rattle.plan_tables_opening.specs.Rowids.{rowid_sql, rowid_terms}

abbrev rowid_word : List ℕ
rowid_word = codes "rowid"

-- the name of the column that is shown: that of the INTEGER PRIMARY KEY, where there is one
abbrev pub rowid_name : Table → List ℕ
rowid_name t = rowids_name (has_rowid (form t).key) (names (form t))

rowid_text : (t : Table) → IfRead (first (rowid_sql t)) (IsBareText (length (rowid_sql t)) (name t) (shown_column rowid_word ∷ []))
unfolding everything
rowid_text Meta = (refl, refl, refl, refl, refl, refl)
rowid_text t = (refl, refl, refl, refl, refl, refl)

rowid_fits : (tree : ℕ) (t : Table) → (column_named (table_at tree t) rowid_word ≡ None) × (rowid_head (table_at tree t) ≡ rowid_name t)
    × (are_typed [] (row_classes (table_at tree t) ∷ []) rowid_terms ≡ true)
unfolding everything
rowid_fits tree Meta = (refl, refl, refl)
rowid_fits tree t = (refl, refl, refl)

is_word : is_rowid rowid_word ≡ true
unfolding everything
is_word = refl

pub rowids : (schema : Schema) (tree at : ℕ) (t : Table) → TableIsAt schema (table_at tree t) at → ShowsRows schema (rowid_sql t) tree rowid_terms (rowid_name t ∷ [])
rowids schema tree at t it =
    let fits = rowid_fits tree t in
    subst (λ n. ShowsRows schema (rowid_sql t) tree rowid_terms (n ∷ [])) fits.1
    (rowid_shows schema (table_at tree t) at it (rowid_sql t) rowid_word is_word fits.0 (rowid_text t) fits.2)
