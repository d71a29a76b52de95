-- The pairs that rows tell, and the rowids of these rows.
use Rattle.std.proofs.Common.{◌≡◌, ◌∙◌, ℕ, List, [], ◌∷◌, map, IsTrue, eqb, ap, refl, sym, subst}
use Rattle.std.specs.List.{Contains}
use Rattle.std.specs.List.Sorted.{IsPermutation}
use Rattle.std.proofs.lemmas.List.Sorted.{Contains-permutation, IsPermutation-map, IsPermutation-sym}
use Rattle.std.proofs.lemmas.Map.Keys.{IsDistinct-IsPermutation}
use Rattle.sqlite.specs.Order.{Row as Values, column}
use Rattle.sqlite.specs.Tree.{rowid}
use Rattle.sqlite.specs.View.{is_int}
use Rattle.app_definition_records.proofs.RisingLemmas.{Contains-map, Contains-map_back}
use Rattle.external_dependencies.specs.declared.pairs.Pair.{Pair}
use Rattle.plan_tables_content.specs.Facts.{pair_values}
use Rattle.plan_tables_schema.specs.Rows.{HaveRowids, Tables, shown}
use Rattle.plan_tables_schema.specs.declared.tables.Table.TheVariants.{Dependency}
use Rattle.plan_tables_loading.specs.Cells.{IsPair}
use Rattle.plan_tables_loading.specs.Readable.{ShowsEachOnce}
use Rattle.plan_tables_loading.specs.Rowids.{AreApart, pair_of, pair_place, pair_row_values, pair_shown, place_of}
use Rattle.plan_tables_loading.specs.Tables.{IsOneOf, ShowsOnce, ShowsOnly}
use Rattle.plan_tables_loading.specs.declared.pairs.PairRow.{PairRow}
use Rattle.plan_tables_loading.proofs.OrderLemmas.{apart_distinct, distinct_apart, flips}
use Rattle.plan_tables_loading.proofs.RowidLemmas.{IsInteger, distinct_rowids, have_rowids, integer_in, integer_rowid}
use Rattle.plan_tables_loading.proofs.RowidLemmas.{rowid_place}
use Rattle.plan_tables_loading.proofs.TableLemmas.{shows_listed}

-- the first two cells, and the place of the third
abbrev two_cells : Values → Values
two_cells v = column v 0 ∷ column v 1 ∷ []

abbrev third_place : Values → ℕ
third_place v = place_of (column v 2)

cells_of_rows : (rows : List Values) → map two_cells (map pair_shown rows) ≡ map (shown Dependency) rows
cells_of_rows [] = refl
cells_of_rows (r ∷ rs) = ap (λ l. shown Dependency r ∷ l) (cells_of_rows rs)

cells_of_pairs : (told : List PairRow) → map two_cells (map pair_row_values told) ≡ map pair_values (map pair_of told)
cells_of_pairs [] = refl
cells_of_pairs (x ∷ xs) = ap (λ l. pair_values x.pair ∷ l) (cells_of_pairs xs)

places_of_rows : (rows : List Values) → map third_place (map pair_shown rows) ≡ map rowid_place rows
places_of_rows [] = refl
places_of_rows (r ∷ rs) = ap (λ l. rowid_place r ∷ l) (places_of_rows rs)

places_of_pairs : (told : List PairRow) → map third_place (map pair_row_values told) ≡ map pair_place told
places_of_pairs [] = refl
places_of_pairs (x ∷ xs) = ap (λ l. pair_place x ∷ l) (places_of_pairs xs)

module _ (all : Tables) (told : List PairRow)
    (listed : IsPermutation (map pair_shown (all Dependency)) (map pair_row_values told)) where
  abbrev rows : List Values
  rows = all Dependency

  same_cells : IsPermutation (map (shown Dependency) rows) (map pair_values (map pair_of told))
  same_cells =
      subst (λ l. IsPermutation l (map pair_values (map pair_of told))) (cells_of_rows rows)
      (subst (IsPermutation (map two_cells (map pair_shown rows))) (cells_of_pairs told)
      (IsPermutation-map two_cells _ _ listed))

  same_places : IsPermutation (map rowid_place rows) (map pair_place told)
  same_places =
      subst (λ l. IsPermutation l (map pair_place told)) (places_of_rows rows)
      (subst (IsPermutation (map third_place (map pair_shown rows))) (places_of_pairs told)
      (IsPermutation-map third_place _ _ listed))

  integers : (r : Values) → Contains rows r → IsInteger r
  integers r there =
      let back = Contains-map_back pair_row_values told (pair_shown r)
      (Contains-permutation _ _ (pair_shown r) listed (Contains-map pair_shown rows r there)) in
      subst (λ v. IsTrue (is_int v)) (ap (λ (v : Values). column v 2) back.2) refl

  -- the table shows the pairs that were told, and has own rowids, where those that were told are apart
  pub shows_pairs : (pairs : List Pair) → pairs ≡ map pair_of told → AreApart told
      → ShowsOnce all Dependency (IsOneOf pair_values pairs)
  shows_pairs pairs are apart = (
    subst (λ l. ShowsOnly all Dependency (IsOneOf pair_values l)) (sym are)
        (shows_listed pair_values (map pair_of told) _ all Dependency same_cells refl),
    have_rowids rows integers (IsDistinct-IsPermutation eqb flips _ _ (IsPermutation-sym _ _ same_places)
        (apart_distinct pair_place told apart)),
  )

  pub told_apart : HaveRowids rows → AreApart told
  told_apart have = distinct_apart pair_place told
      (IsDistinct-IsPermutation eqb flips _ _ same_places (distinct_rowids rows have))

-- a row that nothing such has is not shown
pub no_pair : (all : Tables) (cells : List Values) → IsPermutation (map pair_shown (all Dependency)) cells
    → ((v : Values) × Contains cells v × ((x : PairRow) → IsPair x.pair → pair_row_values x ≡ v → ⊥))
    → ShowsEachOnce all Dependency pair_values IsPair → ⊥
no_pair all cells same none shows =
    let (r, there, is) = Contains-map_back pair_shown (all Dependency) none.0
    (Contains-permutation cells _ none.0 (IsPermutation-sym _ _ same) none.1) in
    let (pair, form, has) = shows.shows.each (shown Dependency r)
    (Contains-map (shown Dependency) (all Dependency) r there) in
    let (z, at) = integer_in (rowid r) (integer_rowid (all Dependency) shows.rowids r there) in
    none.2 (record { pair = pair; rowid = z }) form
    ((λ i. column (has i) 0 ∷ column (has i) 1 ∷ sym at i ∷ []) ∙ is)
