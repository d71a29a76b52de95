-- The rows of an application tell what history has of it.
use Rattle.std.proofs.Common.{◌≡◌, ◌≢◌, ◌∙◌, ℕ, true, List, [], ◌∷◌, Some, refl, sym, ap, subst, map, is_eq}
use Rattle.std.proofs.Common.{Contains, Ordering, Less, Equal, Greater}
use Rattle.std.specs.Cmp.Lexicographic.{nat_list_cmp_total, slice_cmp}
use Rattle.std.specs.FinMap.{nat_cmp-IsAntisymmetric, slice_cmp-IsAntisymmetric}
use Rattle.std.specs.List.Sorted.{IsPermutation}
use Rattle.std.specs.Ordering.{nat_cmp}
use Rattle.std.proofs.lemmas.Cmp.{tied_itself}
use Rattle.sqlite.specs.Order.{Row as Values}
use Rattle.sqlite.specs.declared.types.Value.TheVariants.{Text}
use Rattle.sqlite_sql.specs.declared.ops.CompareOp.TheVariants.{Eq}
use Rattle.occurrences.specs.declared.row.Row.{Row}
use Rattle.planner_machine.specs.Content.{Content}
use Rattle.planner_machine.specs.Sound.{IsSound}
use Rattle.app_definition_records.proofs.RisingLemmas.{Contains-map, Contains-map_back}
use Rattle.plan_tables_schema.specs.Rows.{Tables}
use Rattle.plan_tables_schema.specs.declared.tables.Table.TheVariants as table
use Rattle.plan_tables_lookups.specs.Looks.{question}
use Rattle.plan_tables_lookups.specs.Question.{asked_for, is_so, passes}
use Rattle.plan_tables_lookups.specs.declared.looks.Look.TheVariants.{HistoryOf}
use Rattle.plan_tables_content.specs.Content.{IsContentOf}
use Rattle.plan_tables_content.specs.Facts.{row_values}
use Rattle.plan_tables_content.proofs.Decoded.{one_row}
use Rattle.plan_tables_loading.specs.Cells.{IsNumberedRow}
use Rattle.plan_tables_queries.specs.OfApp.{AreAllOf}
use Rattle.plan_tables_queries.specs.Decoding.{TellsNot}
use Rattle.plan_tables_lookups.specs.declared.faults.TableFault.{TableFault}
use Rattle.plan_tables_lookups.specs.declared.faults.TableFault.TheVariants.{Memory, Malformed, Store}
use Rattle.plan_tables_queries.proofs.RowLemmas.{asked_is, is_asked}
use Rattle.plan_tables_queries.proofs.SerialLemmas.{completed_formed}
use Rattle.plan_tables_queries.proofs.TestLemmas.{alone_of, of_alone, so_texts}

-- ---- the test

tie_from : (o : Ordering) → is_eq o ≡ true → o ≡ Equal
tie_from Less h = cc
tie_from Equal h = refl
tie_from Greater h = cc

of_name : (a b : List ℕ) → is_so Eq (Text a) (Text b) ≡ true → a ≡ b
of_name a b h = slice_cmp-IsAntisymmetric nat_cmp-IsAntisymmetric a b (tie_from _ (sym (so_texts a b) ∙ h))

name_of : (a b : List ℕ) → a ≡ b → is_so Eq (Text a) (Text b) ≡ true
name_of a b same =
    so_texts a b ∙ ap is_eq (ap (λ l. slice_cmp nat_cmp a l) (sym same) ∙ tied_itself nat_list_cmp_total a)

module _ (all : Tables) (c : Content) (is : IsContentOf all c) (app : List ℕ) (rows : List Values)
    (same : IsPermutation (asked_for (question HistoryOf) (Text app ∷ []) all) rows) where
  abbrev asked : Values
  asked = Text app ∷ []

  -- ---- what the rows are

  record IsOfApp (v : Values) : Type 0 where
    row : Row
    number : ℕ
    at : c.sets.history number ≡ Some row
    of : row.key.app ≡ app
    values : v ≡ row_values row

  row_is : (v : Values) → Contains rows v → IsOfApp v
  row_is v there =
      let a = is_asked (question HistoryOf) asked all row_values c.sets.history (is.facts table.History) rows same v
      there in
      let passed = subst (λ (w : Values). passes (question HistoryOf) asked w ≡ true) a.is a.pass in
      record { row = a.fact; number = a.number; at = a.has; of = of_name _ _ (alone_of _ passed); values = a.is }

  module _ (found : List Row) (told : map row_values found ≡ rows) where
    found_is : (row : Row) → Contains found row → (c.sets.history row.serial ≡ Some row) × (row.key.app ≡ app)
    found_is row there =
        let here = subst (λ (l : List Values). Contains l (row_values row)) told
        (Contains-map row_values found row there) in
        let one = row_is (row_values row) here in
        let this : one.row ≡ row = one_row one.row row (sym one.values) in
        let own : one.row.serial ≡ one.number = is.representable.history one.number one.row one.at in
        subst (λ (r : Row). (c.sets.history r.serial ≡ Some r) × (r.key.app ≡ app)) this
        (subst (λ k. c.sets.history k ≡ Some one.row) (sym own) one.at, one.of)

    is_found : (row : Row) → c.sets.history row.serial ≡ Some row → row.key.app ≡ app → Contains found row
    is_found row at of =
        let here = asked_is (question HistoryOf) asked all row_values c.sets.history (is.facts table.History) rows same
        row.serial row at (of_alone _ (name_of row.key.app app of)) in
        let (x, there, values) = Contains-map_back row_values found (row_values row)
        (subst (λ (l : List Values). Contains l (row_values row)) (sym told) here) in
        subst (Contains found) (one_row x row values) there

    pub are_all_of : AreAllOf c.sets.history app found
    are_all_of row = (found_is row, λ both. is_found row both.0 both.1)

  pub row_is_told : IsSound c → (fault : TableFault) → TellsNot IsNumberedRow row_values rows fault → fault ≢ Malformed
  row_is_told sound Memory tells e = cc
  row_is_told sound Malformed (v, there, none) e =
      let one = row_is v there in
      none one.row (completed_formed c sound one.number one.row one.at) (sym one.values)
  row_is_told sound (Store error) tells e = tells
