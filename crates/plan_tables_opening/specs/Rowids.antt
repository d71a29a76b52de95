-- Rowids as they are shown.
use Rattle.std.specs.Prelude.{ℕ, ◌<◌, List, [], ◌∷◌, IsTrue}
use Rattle.std.specs.List.{All, AllPairs}
use Rattle.sqlite.specs.Order.{Row as Values, column}
use Rattle.sqlite.specs.Term.{Term, col, eval_all}
use Rattle.sqlite.specs.View.{is_int}
use Rattle.plan_tables_schema.specs.Form.{rowids_text}
use Rattle.plan_tables_schema.specs.Forms.{form}
use Rattle.plan_tables_schema.specs.declared.tables.Table.{Table}
use Rattle.plan_tables_schema.specs.declared.tables.Table.TheVariants.{Meta}
use Rattle.plan_tables_loading.specs.Rowids.{place_of}

-- shows the rowids of the table
abbrev pub rowid_sql : Table → List ℕ
rowid_sql Meta = rowids_text (form Meta)
rowid_sql t = rowids_text (form t)

abbrev pub rowid_terms : List Term
rowid_terms = col 1 0 ∷ []

-- a row as it is shown: its rowid
abbrev pub rowid_shown : Values → Values
rowid_shown row = eval_all rowid_terms ([] ∷ row ∷ [])

-- each has an integer first
abbrev pub AreIntegers : List Values → Type 0
AreIntegers rows = All (λ (r : Values). IsTrue (is_int (column r 0))) rows

-- each has its integer at a greater place than all before it
abbrev pub PlacesRise : List Values → Type 0
PlacesRise rows = AllPairs (λ (a b : Values). place_of (column a 0) < place_of (column b 0)) rows

abbrev pub AreRising : List Values → Type 0
AreRising rows = AreIntegers rows × PlacesRise rows
