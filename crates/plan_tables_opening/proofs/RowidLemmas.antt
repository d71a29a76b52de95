-- Rowids that were shown, and those of the rows.
use Rattle.std.proofs.Common.{◌≡◌, ◌≢◌, ℕ, List, [], ◌∷◌, map, refl, sym, ap, subst, eqb, IsTrue}
use Rattle.std.specs.List.{AllPairs, IsDistinct}
use Rattle.std.specs.List.Sorted.{IsNonDecreasingBy, IsPermutation}
use Rattle.std.proofs.lemmas.List.Elements.{All-cons, All-nil}
use Rattle.std.proofs.lemmas.List.Sorted.{All-permutation, Contains-permutation, IsPermutation-map, IsPermutation-sym}
use Rattle.std.proofs.lemmas.List.Sorted.{IsPermutation-trans}
use Rattle.std.proofs.lemmas.Map.Keys.{IsDistinct-IsPermutation}
use Rattle.sqlite.specs.Order.{Row as Values, column}
use Rattle.sqlite.specs.State.{IsLive, Shown, State}
use Rattle.sqlite.specs.View.{is_int}
use Rattle.app_definition_records.proofs.RisingLemmas.{Contains-map}
use Rattle.plan_tables_schema.proofs.StatementLemmas.{text_reads}
use Rattle.plan_tables_schema.specs.Rows.{HaveRowids, tables_of}
use Rattle.plan_tables_schema.specs.Schema.{HasTables}
use Rattle.plan_tables_schema.specs.declared.tables.Table.{Table}
use Rattle.plan_tables_loading.specs.Rowids.{place_of}
use Rattle.plan_tables_loading.proofs.OrderLemmas.{apart_distinct, apart_rise, distinct_apart, flips, rise_differ}
use Rattle.plan_tables_loading.proofs.RowidLemmas.{distinct_rowids, have_rowids, rowid_place}
use Rattle.plan_tables_opening.specs.Rowids.{AreIntegers, AreRising, rowid_shown, rowid_sql, rowid_terms}
use Rattle.plan_tables_opening.proofs.RowidTexts.{rowid_name, rowids}

pub reads_rowids : (t : Table) (old new : State) (rows : List Values) → HasTables old.now.schema → IsLive old
    → Shown (rowid_sql t) [] old new rows → IsPermutation (map rowid_shown (tables_of old.now.trees t)) rows
reads_rowids t old new rows has = text_reads t (rowid_sql t) rowid_terms (rowid_name t ∷ []) old new has
    (rowids old.now.schema (has.trees t) (has.at t) t (has.stands t)) rows

-- ---- none twice

abbrev IsInteger : Values → Type 0
IsInteger r = IsTrue (is_int (column r 0))

abbrev first_place : Values → ℕ
first_place r = place_of (column r 0)

shown_places : (rows : List Values) → map first_place (map rowid_shown rows) ≡ map rowid_place rows
shown_places [] = refl
shown_places (r ∷ rs) = ap (λ l. rowid_place r ∷ l) (shown_places rs)

pub rising_rowids : (rows shown : List Values) → IsPermutation (map rowid_shown rows) shown → AreRising shown
    → HaveRowids rows
rising_rowids rows shown same rising =
    have_rowids rows
    (λ r there.
    let (k, low, at) = Contains-permutation (map rowid_shown rows) shown (rowid_shown r) same
    (Contains-map rowid_shown rows r there) in
    subst IsInteger at (rising.0 k (rowid_shown r) low))
    (subst (IsDistinct eqb) (shown_places rows)
    (IsDistinct-IsPermutation eqb flips _ _ (IsPermutation-map first_place _ _ (IsPermutation-sym _ _ same))
    (apart_distinct first_place shown (rise_differ first_place shown rising.1))))

-- ---- and all of them where none is twice

integer_rows : (rows : List Values) → HaveRowids rows → AreIntegers (map rowid_shown rows)
integer_rows [] have = All-nil IsInteger
integer_rows (r ∷ rs) have = All-cons IsInteger (rowid_shown r) (map rowid_shown rs) have.0 (integer_rows rs have.2)

rows_apart : (rows : List Values) → HaveRowids rows
    → AllPairs (λ (a b : Values). first_place a ≢ first_place b) (map rowid_shown rows)
rows_apart rows have = distinct_apart first_place (map rowid_shown rows)
    (subst (IsDistinct eqb) (sym (shown_places rows)) (distinct_rowids rows have))

pub rowids_rise : (rows shown sorted : List Values) → IsPermutation (map rowid_shown rows) shown
    → IsPermutation shown sorted → IsNonDecreasingBy first_place sorted → HaveRowids rows → AreRising sorted
rowids_rise rows shown sorted same moved order have =
    let all = IsPermutation-trans _ _ _ same moved in (
      All-permutation IsInteger _ _ all (integer_rows rows have),
      apart_rise first_place (map rowid_shown rows) sorted all order (rows_apart rows have),
    )
