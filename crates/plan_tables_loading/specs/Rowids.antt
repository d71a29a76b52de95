-- Rowids as numbers, and the pairs with the rowids of their rows.
use Rattle.std.specs.Prelude.{ℕ, ◌+◌, ◌*◌, ◌≢◌, List, [], ◌∷◌, pos, negsuc, codes}
use Rattle.std.specs.List.{AllPairs}
use Rattle.sqlite.specs.Order.{Row as Values}
use Rattle.sqlite.specs.Term.{Term, col, eval_all}
use Rattle.sqlite.specs.declared.types.Value.{Value}
use Rattle.sqlite.specs.declared.types.Value.TheVariants.{Null, Int, Real, Text, Blob}
use Rattle.external_dependencies.specs.declared.pairs.Pair.{Pair}
use Rattle.plan_tables_content.specs.Facts.{natural}
use Rattle.plan_tables_loading.specs.declared.pairs.PairRow.{PairRow}

-- the place of an integer in the order 0, -1, 1, -2 and so on; 0 of any other value
abbrev pub place_of : Value → ℕ
place_of (Int (pos n)) = n * 2
place_of (Int (negsuc n)) = n * 2 + 1
place_of Null = 0
place_of (Real x) = 0
place_of (Text t) = 0
place_of (Blob b) = 0

-- shows the pairs, and the rowids of their rows
abbrev pub pair_sql : List ℕ
pair_sql = codes "SELECT successor, predecessor, rowid FROM dependency"

abbrev pub pair_terms : List Term
pair_terms = col 1 1 ∷ col 1 2 ∷ col 1 0 ∷ []

-- a row as it is shown: its pair and its rowid
abbrev pub pair_shown : Values → Values
pair_shown row = eval_all pair_terms ([] ∷ row ∷ [])

-- the values of such a row
abbrev pub pair_row_values : PairRow → Values
pair_row_values row = natural row.pair.successor ∷ natural row.pair.predecessor ∷ Int row.rowid ∷ []

abbrev pub pair_of : PairRow → Pair
pair_of row = row.pair

abbrev pub pair_place : PairRow → ℕ
pair_place row = place_of (Int row.rowid)

-- no two have the same rowid
abbrev pub AreApart : List PairRow → Type 0
AreApart rows = AllPairs (λ (a b : PairRow). pair_place a ≢ pair_place b) rows
