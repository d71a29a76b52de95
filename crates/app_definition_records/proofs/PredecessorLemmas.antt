-- The predecessors of an application, with one record more.
use Rattle.std.proofs.Common.{◌≡◌, ◌∙◌, sym, ap, subst, inl, inr, ℕ, ◌<◌, List, [], ◌∷◌, ◌++◌, length, get_or}
use Rattle.std.specs.Prelude.{Contains}
use Rattle.std.specs.List.{HoldsAt, insert}
use Rattle.std.proofs.lemmas.List.Elements.{Contains-append_left, Contains-get_or, Contains-push, Contains-push_cases}
use Rattle.app_definition_records.specs.Fields.{field}
use Rattle.app_definition_records.specs.Predecessors.{predecessor_of, predecessors_of, named_by, FitsPredecessors}
use Rattle.app_definition_records.specs.Predecessors.{ArePredecessorsOf, IsPredecessorRecord}
use Rattle.app_definition_records.specs.Rising.{IsPlaceFor}
use Rattle.app_definition_records.specs.declared.predecessors.Predecessor.{Predecessor}
use Rattle.app_definition_records.proofs.RisingLemmas.{none_named, rising-insert, Contains-insert_cases}
use Rattle.app_definition_records.proofs.RisingLemmas.{Contains-insert_new}
use Rattle.app_definition_records.proofs.RisingLemmas.{Contains-insert_old, Contains-map, Contains-map_back}
use Rattle.app_definition_records.specs.Records.{Record, Records}
use Rattle.app_definition_records.specs.declared.columns.TheConstants.{PREDECESSOR}

-- the name that a record gives
abbrev named : Record → List ℕ
named row = field row PREDECESSOR

abbrev name_of : Predecessor → List ℕ
name_of p = p.name

-- a further predecessor at its place
pub predecessors-more : (listed : List Predecessor) (before : Records) (p : Predecessor) (row : Record) (place : ℕ)
    → p ≡ predecessor_of row → IsPlaceFor name_of listed p.name place → ArePredecessorsOf listed before
    → ArePredecessorsOf (insert listed place p) (before ++ row ∷ [])
predecessors-more listed before p row place of free are =
    record {
      rising = rising-insert name_of listed p place free are.rising;
      exactly = λ q. (
        λ has. elim (Contains-insert_cases listed place p q has) [
          | inl old ↦ let (r, there, same) = Contains-map_back predecessor_of before q ((are.exactly q).0 old) in
              subst (Contains (predecessors_of (before ++ row ∷ []))) same
              (Contains-map predecessor_of (before ++ row ∷ []) r (Contains-append_left before (row ∷ []) r there))
          | inr new ↦ subst (Contains (predecessors_of (before ++ row ∷ []))) (sym of ∙ sym new)
              (Contains-map predecessor_of (before ++ row ∷ []) row (Contains-push before row))
        ],
        λ has. from q (Contains-map_back predecessor_of (before ++ row ∷ []) q has),
      );
    }
  where
    from : (q : Predecessor) → ((r : Record) × Contains (before ++ row ∷ []) r × (predecessor_of r ≡ q))
        → Contains (insert listed place p) q
    from q (r, there, same) = elim (Contains-push_cases before row r there) [
      | inl old ↦ Contains-insert_old listed place p q ((are.exactly q).1
          (subst (Contains (predecessors_of before)) same (Contains-map predecessor_of before r old)))
      | inr new ↦ subst (Contains (insert listed place p)) (of ∙ ap predecessor_of new ∙ same)
          (Contains-insert_new listed place p)
    ]

-- a record with a new name is good
pub predecessors-fit : (listed : List Predecessor) (before : Records) (p : Predecessor) (row : Record) (place : ℕ)
    → IsPredecessorRecord row → p ≡ predecessor_of row → IsPlaceFor name_of listed p.name place
    → ArePredecessorsOf listed before → FitsPredecessors before row
predecessors-fit listed before p row place is of free are = record {
  is = is;
  new = λ has.
      let (r, there, same) = Contains-map_back named before (named row) has in
      let (k, lt, at) = (are.exactly (predecessor_of r)).1 (Contains-map predecessor_of before r there) in
      none_named name_of listed p.name place free (k, predecessor_of r, lt, at, same ∙ sym (ap name_of of));
}

-- one with a name that is there is not
pub predecessors-no_fit : (listed : List Predecessor) (before : Records) (p : Predecessor) (row : Record) (k : ℕ)
    → p ≡ predecessor_of row → k < length listed → HoldsAt (λ q. q.name ≡ p.name) listed k
    → ArePredecessorsOf listed before → FitsPredecessors before row → ⊥
predecessors-no_fit listed before p row k of lt at are fits =
    let q = get_or listed k p in
    let (r, there, same) = Contains-map_back predecessor_of before q ((are.exactly q).0 (Contains-get_or listed k p lt)) in
    fits.new (subst (Contains (named_by before)) (ap name_of same ∙ at p ∙ ap name_of of)
    (Contains-map named before r there))
