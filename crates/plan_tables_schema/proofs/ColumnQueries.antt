-- `SELECT columns FROM table` wherever the table stands.
use Rattle.std.proofs.Common.{◌≡◌, ℕ, ◌-◌, ◌&&◌, nat_lt, List, [], ◌∷◌, length, map, refl, Option, None, Some, ap, subst₂, ◌∙◌, false, true, Bool, slice_get, is_some, ltb-true}
use Rattle.sqlite_schema.specs.declared.schema.Schema.{Schema}
use Rattle.sqlite_schema.specs.declared.schema.Table.{Table}
use Rattle.sqlite_schema.specs.declared.schema.Column.{Column}
use Rattle.sqlite_schema.specs.Names.{column_named}
use Rattle.sqlite_sql.specs.Term.{Term}
use Rattle.sqlite_resolve.specs.Lowering.{max_budget, nothing}
use Rattle.sqlite_resolve.specs.Compile.{first}
use Rattle.sqlite_typing.specs.Types.{are_typed, row_classes}
use Rattle.plan_tables_schema.proofs.ColumnsLemmas as lemmas
use Rattle.plan_tables_schema.proofs.QueryMeanings.{ShowsRows, text_shows}
use Rattle.plan_tables_schema.specs.Places.{TableIsAt}
use Rattle.plan_tables_schema.proofs.Written.{IfRead}
use Rattle.plan_tables_schema.proofs.WrittenQueries.{IfFound, HasColumns, shown_as, shown_column, IsBareText, is_there, has_all}

and_parts : (a b : Bool) → (a && b) ≡ true → (a ≡ true) × (b ≡ true)
and_parts true b h = (refl, h)
and_parts false b h = absurd (cc)

kept : (o : Option Column) → is_some o ≡ true → IfFound o (λ c. Unit {0})
kept (Some c) h = tt
kept None h = absurd (cc)

there : (table : Table) (o : Option ℕ) → is_there table o ≡ true → IfFound o (λ k. IfFound (slice_get table.columns k) (λ c. Unit {0}))
there table (Some k) h = kept (slice_get table.columns k) h
there table None h = absurd (cc)

all_there : (table : Table) (ns : List (List ℕ)) → has_all table ns ≡ true → HasColumns table ns
all_there table [] h = tt
all_there table (n ∷ ns) h =
    let both = and_parts (is_there table (column_named table n)) (has_all table ns) h in
    (there table (column_named table n) both.0, all_there table ns both.1)

-- the text shows these columns of the table of the name
abbrev pub IsBareSelect : List ℕ → List ℕ → List (List ℕ) → Type 0
IsBareSelect name sql columns = IfRead (first sql) (IsBareText (length sql) name (map shown_column columns))

-- these columns of the table, under their names, are these terms
abbrev pub ShowsColumns : Table → List (List ℕ) → List Term → Type 0
ShowsColumns table columns terms = (has_all table columns ≡ true) × (nat_lt (length columns) max_budget ≡ true)
    × (map (λ o. o.term) (map (shown_as table) columns) ≡ terms)
    × (map (λ o. o.name) (map (shown_as table) columns) ≡ columns)
    × (are_typed [] (row_classes table ∷ []) terms ≡ true)

module _ (schema : Schema) (table : Table) (at : ℕ) (it : TableIsAt schema table at) (sql : List ℕ)
    (columns : List (List ℕ)) (terms : List Term) (text : IsBareSelect table.name sql columns)
    (fits : ShowsColumns table columns terms) where
  pub columns_show : ShowsRows schema sql table.tree terms columns
  columns_show =
      let all = lemmas.shows_all schema table at it.got 699 columns (all_there table columns fits.0) max_budget nothing []
      (ltb-true (length columns) max_budget fits.1) in
      subst₂ (λ t n. ShowsRows schema sql table.tree t n) fits.2 fits.3
      (text_shows schema table at it sql (map shown_column columns) (map (shown_as table) columns)
      (max_budget - length columns) all.0 all.1 (ap (are_typed [] (row_classes table ∷ [])) fits.2 ∙ fits.4) text)
