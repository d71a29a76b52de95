-- The rows of a moment tell the deletions that arrive from it on.
use Rattle.std.proofs.Common.{◌≡◌, ◌≢◌, ◌∙◌, ◌≤◌, ℕ, ◌*◌, true, false, List, [], ◌∷◌, refl, sym, ap, subst}
use Rattle.std.proofs.Common.{map, eqb, Contains}
use Rattle.std.specs.Prelude.{codes}
use Rattle.std.specs.List.{AllPairs, IsDistinct}
use Rattle.std.specs.List.Sorted.{IsPermutation}
use Rattle.std.proofs.lemmas.List.Kept.{AllPairs-filter}
use Rattle.std.proofs.lemmas.List.Sorted.{IsPermutation-map}
use Rattle.std.proofs.lemmas.Map.Keys.{IsDistinct-IsPermutation}
use Rattle.sqlite.specs.Order.{Row, column}
use Rattle.sqlite.specs.declared.types.Value.TheVariants.{Text}
use Rattle.sqlite_keyed.proofs.ListLemmas.{map-map}
use Rattle.sqlite_sql.specs.declared.ops.CompareOp.TheVariants.{Eq}
use Rattle.occurrences.specs.Place.{reason_letter}
use Rattle.occurrences.specs.declared.place.Deletion.{Deletion}
use Rattle.occurrences.specs.declared.place.Reason.{Reason}
use Rattle.occurrences.specs.declared.place.Reason.TheVariants.{Operator, Withdrawn, Plan}
use Rattle.planner_machine.specs.Content.{Content}
use Rattle.planner_machine.specs.Sound.{IsSound}
use Rattle.app_definition_records.proofs.RisingLemmas.{Contains-map, Contains-map_back}
use Rattle.plan_tables_schema.specs.Rows.{HaveRowids, Tables, shown}
use Rattle.plan_tables_schema.specs.declared.tables.Table.TheVariants as table
use Rattle.plan_tables_lookups.specs.Finding.{natural}
use Rattle.plan_tables_lookups.specs.Looks.{question}
use Rattle.plan_tables_lookups.specs.Question.{asked_for, is_so, passes}
use Rattle.plan_tables_lookups.specs.declared.looks.Look.TheVariants.{DeletedFrom}
use Rattle.plan_tables_content.specs.Content.{IsContentOf}
use Rattle.plan_tables_content.specs.Facts.{deletion_values}
use Rattle.plan_tables_content.proofs.Decoded.{one_deletion}
use Rattle.plan_tables_loading.specs.Cells.{IsNumberedRow}
use Rattle.plan_tables_loading.specs.Rowids.{place_of}
use Rattle.plan_tables_loading.proofs.OrderLemmas.{apart_distinct, distinct_apart, flips}
use Rattle.plan_tables_loading.proofs.RowidLemmas.{distinct_rowids}
use Rattle.plan_tables_queries.specs.Deletions.{AreGoneFrom, IsGoneFrom}
use Rattle.plan_tables_queries.specs.Decoding.{TellsNot}
use Rattle.plan_tables_lookups.specs.declared.faults.TableFault.{TableFault}
use Rattle.plan_tables_lookups.specs.declared.faults.TableFault.TheVariants.{Memory, Malformed, Store}
use Rattle.plan_tables_queries.proofs.RowLemmas.{asked_is, is_asked}
use Rattle.plan_tables_queries.proofs.SerialLemmas.{deleted_formed}
use Rattle.plan_tables_queries.proofs.TestLemmas.{both_of, is_late, late_is, of_both, so_texts}

-- ---- the tests

operator_is : (r : Reason) → is_so Eq (Text (reason_letter r ∷ [])) (Text (codes "O")) ≡ true → r ≡ Operator
operator_is Operator h = refl
operator_is Withdrawn h = absurd (let e : false ≡ true = sym (so_texts (codes "W") (codes "O")) ∙ h in cc)
operator_is Plan h = absurd (let e : false ≡ true = sym (so_texts (codes "P") (codes "O")) ∙ h in cc)

is_operator : (r : Reason) → r ≡ Operator → is_so Eq (Text (reason_letter r ∷ [])) (Text (codes "O")) ≡ true
is_operator Operator h = so_texts (codes "O") (codes "O")
is_operator Withdrawn h = absurd (let e = h in cc)
is_operator Plan h = absurd (let e = h in cc)

from_passes : (moment : ℕ) (d : Deletion)
    → passes (question DeletedFrom) (natural moment ∷ []) (deletion_values d) ≡ true
    → (d.reason ≡ Operator) × (moment ≤ d.row.key.ia)
from_passes moment d h =
    let both = both_of _ _ h in (operator_is d.reason both.0, is_late d.row.key.ia moment both.1)

passes_from : (moment : ℕ) (d : Deletion) → d.reason ≡ Operator → moment ≤ d.row.key.ia
    → passes (question DeletedFrom) (natural moment ∷ []) (deletion_values d) ≡ true
passes_from moment d by late = of_both _ _ (is_operator d.reason by) (late_is d.row.key.ia moment late)

-- ---- each serial once

-- the place of a rowid that is shown
abbrev shown_place : Row → ℕ
shown_place v = place_of (column v 0)

abbrev shown_all : Tables → List Row
shown_all all = map (shown table.Deletion) (all table.Deletion)

shown_apart : (all : Tables) → HaveRowids (all table.Deletion)
    → AllPairs (λ v w. shown_place v ≢ shown_place w) (shown_all all)
shown_apart all have = distinct_apart shown_place (shown_all all)
    (subst (IsDistinct eqb) (sym (map-map shown_place (shown table.Deletion) (all table.Deletion)))
    (distinct_rowids (all table.Deletion) have))

module _ (all : Tables) (c : Content) (is : IsContentOf all c) (moment : ℕ) (rows : List Row)
    (same : IsPermutation (asked_for (question DeletedFrom) (natural moment ∷ []) all) rows) where
  abbrev asked : Row
  asked = natural moment ∷ []

  -- ---- what the rows are

  row_is : (row : Row) → Contains rows row → (d : Deletion) × IsGoneFrom c moment d × (row ≡ deletion_values d)
  row_is row there =
      let a = is_asked (question DeletedFrom) asked all deletion_values c.sets.deletions (is.facts table.Deletion) rows
      same row there in
      let tells = from_passes moment a.fact
      (subst (λ (v : Row). passes (question DeletedFrom) asked v ≡ true) a.is a.pass) in
      (a.fact, record { serial = a.number; is = a.has; reason = tells.0; late = tells.1 }, a.is)

  has_row : (d : Deletion) → IsGoneFrom c moment d → Contains rows (deletion_values d)
  has_row d gone = asked_is (question DeletedFrom) asked all deletion_values c.sets.deletions (is.facts table.Deletion)
      rows same gone.serial d gone.is (passes_from moment d gone.reason gone.late)

  rows_apart : HaveRowids (all table.Deletion) → AllPairs (λ v w. shown_place v ≢ shown_place w) rows
  rows_apart have = distinct_apart shown_place rows
      (IsDistinct-IsPermutation eqb flips _ _ (IsPermutation-map shown_place _ rows same)
      (apart_distinct shown_place _
      (AllPairs-filter (λ v w. shown_place v ≢ shown_place w) (passes (question DeletedFrom) asked) (shown_all all)
      (shown_apart all have))))

  module _ (found : List Deletion) (told : map deletion_values found ≡ rows) where
    found_is : (d : Deletion) → Contains found d → IsGoneFrom c moment d
    found_is d there =
        let here = subst (λ (l : List Row). Contains l (deletion_values d)) told
        (Contains-map deletion_values found d there) in
        let (e, gone, values) = row_is (deletion_values d) here in
        subst (IsGoneFrom c moment) (sym (one_deletion d e values)) gone

    is_found : (d : Deletion) → IsGoneFrom c moment d → Contains found d
    is_found d gone =
        let here = subst (λ (l : List Row). Contains l (deletion_values d)) (sym told) (has_row d gone) in
        let (e, there, values) = Contains-map_back deletion_values found (deletion_values d) here in
        subst (Contains found) (one_deletion e d values) there

    places : map (λ (d : Deletion). shown_place (deletion_values d)) found ≡ map shown_place rows
    places = sym (map-map shown_place deletion_values found) ∙ ap (map shown_place) told

    found_apart : HaveRowids (all table.Deletion) → AllPairs (λ (a b : Deletion). a.row.serial ≢ b.row.serial) found
    found_apart have =
        let apart = distinct_apart (λ (d : Deletion). shown_place (deletion_values d)) found
        (subst (IsDistinct eqb) (sym places) (apart_distinct shown_place rows (rows_apart have))) in
        λ i j d low within e. apart i j d low within (ap (λ n. n * 2) e)

    pub are_gone_from : AreGoneFrom all moment c found
    are_gone_from = record { exactly = λ d. (found_is d, is_found d); once = found_apart }

  pub deletion_is_told : IsSound c → (fault : TableFault)
      → TellsNot (λ (d : Deletion). IsNumberedRow d.row) deletion_values rows fault → fault ≢ Malformed
  deletion_is_told sound Memory tells e = cc
  deletion_is_told sound Malformed (row, there, none) e =
      let (d, gone, values) = row_is row there in
      none d (deleted_formed c sound gone.serial d gone.is) (sym values)
  deletion_is_told sound (Store error) tells e = tells
