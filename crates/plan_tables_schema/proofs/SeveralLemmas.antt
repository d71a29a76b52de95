-- Rows that one statement puts into a table, one or several.
use Rattle.std.proofs.Common.{◌≡◌, ◌/◌, ◌∙◌, ◌*◌, ℕ, true, false, IsTrue, List, [], ◌∷◌, ◌++◌, append-nil, drop, length, map, refl, sym, ap, subst}
use Rattle.std.specs.List.{AllByRecursion, flat_map, list_all}
use Rattle.std.proofs.lemmas.Bool.{and_parts, not-true}
use Rattle.sqlite.specs.Command.TheVariants.{Insert}
use Rattle.sqlite.specs.Effect.{value_rows}
use Rattle.sqlite.specs.Order.{Row}
use Rattle.sqlite.specs.Rowids.TheVariants.{Chosen}
use Rattle.sqlite.specs.Source.TheVariants.{Values}
use Rattle.sqlite.specs.Term.{Term, eval_all}
use Rattle.sqlite.specs.Tree.{put_row, rowid}
use Rattle.sqlite.specs.View.{is_int}
use Rattle.sqlite_rules.specs.Cast.{cast_row}
use Rattle.sqlite_rules.specs.Edit.{are_fresh, have_rowids, is_taken, numbered, put_all, with_rowid}
use Rattle.sqlite_schema.specs.declared.schema.Schema.{Schema}
use Rattle.plan_tables_schema.specs.Cells.{column_names, insert_terms, rows_at_once, rows_given, several_terms, width}
use Rattle.plan_tables_schema.specs.Places.{TableIsAt}
use Rattle.plan_tables_schema.specs.Rows.{AreOfKinds, HaveRowids, placed, stored}
use Rattle.plan_tables_schema.specs.Schema.{table, table_at}
use Rattle.plan_tables_schema.specs.Texts.{insert_sql, several_sql}
use Rattle.plan_tables_schema.specs.declared.tables.Table.{Table}
use Rattle.plan_tables_schema.specs.declared.tables.Table.TheVariants.{Meta}
use Rattle.plan_tables_schema.proofs.FitLemmas.{is_given}
use Rattle.plan_tables_schema.proofs.MeaningLemmas.{Means}
use Rattle.plan_tables_schema.proofs.RowLemmas.{put_is_placed, rowids_placed}
use Rattle.plan_tables_schema.proofs.TextMeanings.{insert_means, several_means}

-- ---- a text that puts rows of these values into the table, wherever it stands

pub record PutsRows (t : Table) (sql : List ℕ) (terms : List Term) (given : ℕ) (values : Row) (rows : List Row)
    : Type 0 where
  pub means : (schema : Schema) (at tree : ℕ) → TableIsAt schema (table_at tree t) at
      → Means schema sql (Insert at (Values terms (width t))) given
  pub rows_are : value_rows (values ++ []) (width t) (length terms / width t) terms ≡ map (stored t) rows
  pub terms_are : list_all is_given terms ≡ true
  pub values_are : eval_all terms (values ∷ []) ≡ flat_map (stored t) rows

one_rows : (t : Table) (cells : Row) → value_rows cells (width t) (length (insert_terms t) / width t) (insert_terms t)
    ≡ map (stored t) (cells ∷ [])
one_rows Meta cells = refl
one_rows t cells = refl

one_given : (t : Table) → list_all is_given (insert_terms t) ≡ true
one_given Meta = refl
one_given t = refl

pub puts_one : (t : Table) (cells : Row)
    → PutsRows t (insert_sql t) (insert_terms t) (length (column_names t)) cells (cells ∷ [])
puts_one t cells = record {
  means = λ schema at tree it. insert_means schema at tree t it;
  rows_are = ap (λ c. value_rows c (width t) (length (insert_terms t) / width t) (insert_terms t)) (append-nil cells)
      ∙ one_rows t cells;
  terms_are = one_given t;
  values_are = sym (append-nil (stored t cells));
}

several_rows : (t : Table) (values : Row) → value_rows values (width t) (length (several_terms t) / width t)
    (several_terms t) ≡ map (stored t) (rows_given t values)
several_rows Meta values = refl
several_rows t values = refl

several_given : (t : Table) → list_all is_given (several_terms t) ≡ true
several_given Meta = refl
several_given t = refl

several_values : (t : Table) (values : Row) → eval_all (several_terms t) (values ∷ [])
    ≡ flat_map (stored t) (rows_given t values)
several_values Meta values = refl
several_values t values = refl

pub puts_several : (t : Table) (values : Row) → PutsRows t (several_sql t) (several_terms t)
    (rows_at_once t * length (column_names t)) values (rows_given t values)
puts_several t values = record {
  means = λ schema at tree it. several_means schema at tree t it;
  rows_are = ap (λ c. value_rows c (width t) (length (several_terms t) / width t) (several_terms t)) (append-nil values)
      ∙ several_rows t values;
  terms_are = several_given t;
  values_are = several_values t values;
}

-- ---- what they make of the rows

-- rows of these values among the others, one after another
abbrev pub placed_all : Table → List Row → List Row → List Row
placed_all t [] was = was
placed_all t (cells ∷ more) was = placed_all t more (placed (with_rowid Chosen was (stored t cells)) was)

-- as they are cast
abbrev pub sources : Table → List Row → List Row
sources t rows = map (λ s. cast_row (table t) (drop 0 s)) (map (stored t) rows)

abbrev HaveOwn : List Row → List Row → Type 0
HaveOwn news was = (have_rowids (numbered Chosen was news) ≡ true) × (are_fresh was (numbered Chosen was news) ≡ true)

-- if each has its rowid, and none takes the place of another
pub puts_are_placed : (t : Table) (rows was : List Row) → AllByRecursion (AreOfKinds t) rows
    → HaveOwn (sources t rows) was
    → (put_all was (numbered Chosen was (sources t rows)) ≡ placed_all t rows was)
    × (HaveRowids was → HaveRowids (placed_all t rows was))
puts_are_placed t [] was kinds own = (refl, λ h. h)
puts_are_placed t (cells ∷ more) was kinds own =
    let row = with_rowid Chosen was (stored t cells) in
    let same : with_rowid Chosen was (cast_row (table t) (stored t cells)) ≡ row = ap (with_rowid Chosen was) kinds.0 in
    let ints = and_parts _ _ own.0 in
    let apart = and_parts _ _ own.1 in
    let fresh : is_taken was row ≡ false = subst (λ r. is_taken was r ≡ false) same (not-true _ apart.0) in
    let put : put_row (with_rowid Chosen was (cast_row (table t) (stored t cells))) was ≡ placed row was
    = ap (λ r. put_row r was) same ∙ put_is_placed row was fresh in
    let rest = puts_are_placed t more (placed row was) kinds.1
    (subst (HaveOwn (sources t more)) put (ints.1, apart.1)) in (
      ap (λ all. put_all all (numbered Chosen all (sources t more))) put ∙ rest.0,
      λ ids. rest.1 (rowids_placed row was (subst (λ r. IsTrue (is_int (rowid r))) same ints.0) fresh ids),
    )
