-- Records of applications and of predecessors.
use Rattle.std.proofs.Common.{◌≡◌, ◌↔◌, ◌⊎◌, ℕ, zero, suc, ◌+◌, ◌<◌, Bool, true, false, List, [], ◌∷◌, length, get_or}
use Rattle.std.proofs.Common.{take}
use Rattle.std.proofs.Common.{map, refl, sym, ap, subst, ◌∙◌, inl, inr, arith, Option, None, Some}
use Rattle.std.specs.Prelude.{IfSome, IsTrue, codes}
use Rattle.std.specs.List.{All, Contains}
use Rattle.std.proofs.lemmas.List.{get_or-map, get_or_default, length-map, take-map}
use Rattle.std.proofs.lemmas.List.Elements.{All-contains_itself, All-weaker, Contains-get_or}
use Rattle.work_calendars.specs.Name.{IsName}
use Rattle.work_calendars.specs.Within.{IsWithinHours}
use Rattle.app_definition_records.specs.Applications.{FitsApplication, IsApplicationOf}
use Rattle.app_definition_records.specs.Fields.{IsEmptyOr, field, number_value, some_unless_empty}
use Rattle.app_definition_records.specs.Predecessors.{ArePredecessorsOf, FitsPredecessors, IsWithinText, named_by}
use Rattle.app_definition_records.specs.Predecessors.{predecessor_of, predecessors_of, within_of}
use Rattle.app_definition_records.specs.declared.predecessors.Predecessor.{Predecessor}
use Rattle.app_definition_records.specs.Rising.{AreRising, IsBelow}
use Rattle.app_definition_records.specs.declared.applications.Application.{Application}
use Rattle.app_definition_records.specs.declared.columns.TheConstants.{APPLICATION_FIELDS, LIMITED_PREDECESSOR_FIELDS}
use Rattle.app_definition_records.specs.FieldCounts.{HasApplicationFields, HasPredecessorFields}
use Rattle.app_definition_records.specs.declared.columns.TheConstants.{APPLICATION_CALENDAR}
use Rattle.app_definition_records.specs.declared.columns.TheConstants.{PREDECESSOR_WITHIN}
use Rattle.app_definition_records.proofs.RisingLemmas.{Contains-map, Contains-map_back, not_itself}
use Rattle.app_definition_soundness.specs.Given.{IsGiven}
use Rattle.app_definition_soundness.specs.Values.{ArePredecessorValues, IsApplicationValue}
use Rattle.app_definition_soundness.proofs.NumberLemmas.{hours_spelled, number_text}
use Rattle.app_definition_soundness.proofs.RecordLemmas.{about, begun, given, rows_of}

-- applications

status_text : Bool → List ℕ
status_text true = codes "A"
status_text false = codes "P"

status_is : (b : Bool) → IsTrue b ↔ (status_text b ≡ codes "A")
unfolding status_text
status_is true = ((λ yes. refl), λ same. refl)
status_is false = (
  (λ yes. cc),
  λ same. let e : 80 ≡ 65 = ap (λ (l : List ℕ). get_or l 0 0) same in absurd (omega arith),
)

status_fits : (b : Bool) → (status_text b ≡ codes "A") ⊎ (status_text b ≡ codes "P")
unfolding status_text
status_fits true = inl refl
status_fits false = inr refl

calendar_text : Option (List ℕ) → List ℕ
calendar_text None = []
calendar_text (Some name) = name

calendar_fits : (o : Option (List ℕ)) → IfSome o IsName → IsEmptyOr IsName (calendar_text o)
unfolding calendar_text
calendar_fits None is = inl refl
calendar_fits (Some name) is = inr is

calendar_is : (o : Option (List ℕ)) → IfSome o IsName → o ≡ some_unless_empty (calendar_text o)
unfolding calendar_text
calendar_is None is = refl
calendar_is (Some []) is = absurd (omega (arith, is.not_empty))
calendar_is (Some (b ∷ name)) is = refl

calendar_named : (text : List ℕ) (o : Option (List ℕ)) → IsEmptyOr IsName text → o ≡ some_unless_empty text
    → IfSome o IsName
calendar_named [] o form is = subst (λ x. IfSome x IsName) (sym is) tt
calendar_named (b ∷ text) o form is = elim form [
  | inl empty ↦ let e : suc (length text) ≡ 0 = ap length empty in absurd (omega arith)
  | inr named ↦ subst (λ x. IfSome x IsName) (sym is) named
]

module _ (name : List ℕ) (a : Application) where
  pub application_given : IsApplicationValue name a → IsGiven HasApplicationFields FitsApplication IsApplicationOf name a
  application_given is =
      given name HasApplicationFields APPLICATION_FIELDS refl FitsApplication IsApplicationOf a is.named
      ((status_text a.active ∷ calendar_text a.calendar ∷ []) ∷ []) (λ none. cc)
      (λ k lt. first k lt)
      (record { active = status_is a.active; calendar = calendar_is a.calendar is.calendar })
    where
      first : (k : ℕ) → k < 1 → (length (get_or ((status_text a.active ∷ calendar_text a.calendar ∷ []) ∷ []) k []) + 1
          ≡ APPLICATION_FIELDS)
          × FitsApplication (rows_of name (take k ((status_text a.active ∷ calendar_text a.calendar ∷ []) ∷ [])))
          (about name (get_or ((status_text a.active ∷ calendar_text a.calendar ∷ []) ∷ []) k []))
      first zero lt = (
        refl,
        record { only = refl; status = status_fits a.active; calendar = calendar_fits a.calendar is.calendar },
      )
      first (suc k) lt = absurd (omega arith)

  pub application_value : IsGiven HasApplicationFields FitsApplication IsApplicationOf name a → IsApplicationValue name a
  application_value is =
      let begins = begun name HasApplicationFields APPLICATION_FIELDS refl FitsApplication IsApplicationOf a is in
      let (k, lt, at) = begins.there in
      let (before, fits) = begins.each (get_or begins.rows 0 []) (Contains-get_or begins.rows 0 [] (omega arith)) in
      record {
        named = begins.named;
        calendar = calendar_named (field (get_or begins.rows 0 []) APPLICATION_CALENDAR) a.calendar fits.calendar
            begins.made.calendar;
      }

-- predecessors

limit_text : Option ℕ → List ℕ
limit_text None = []
limit_text (Some hours) = number_text hours

some_within : (text : List ℕ) → 0 < length text → within_of text ≡ Some (number_value text)
some_within [] some = absurd (omega arith)
some_within (b ∷ text) some = refl

limit_is : (o : Option ℕ) → IfSome o IsWithinHours → within_of (limit_text o) ≡ o
unfolding limit_text
limit_is None is = refl
limit_is (Some hours) is =
    let spells = hours_spelled hours is.1 in
    some_within (number_text hours) spells.number.not_empty ∙ ap Some spells.value

limit_fits : (o : Option ℕ) → IfSome o IsWithinHours → IsEmptyOr IsWithinText (limit_text o)
unfolding limit_text
limit_fits None is = inl refl
limit_fits (Some hours) is =
    let spells = hours_spelled hours is.1 in inr (spells.number, subst IsWithinHours (sym spells.value) is)

limit_value : (text : List ℕ) → IsEmptyOr IsWithinText text → IfSome (within_of text) IsWithinHours
limit_value [] form = tt
limit_value (b ∷ text) form = elim form [
  | inl empty ↦ let e : suc (length text) ≡ 0 = ap length empty in absurd (omega arith)
  | inr is ↦ is.1
]

single : Predecessor → List (List ℕ)
single p = p.name ∷ limit_text p.within ∷ []

abbrev name_of : Predecessor → List ℕ
name_of p = p.name

nobody : Predecessor
nobody = record { name = []; within = None }

-- no name of a rising list stands before its place
not_before : (names : List (List ℕ)) → AreRising (λ n. n) names → (k : ℕ) → k < length names
    → Contains (take k names) (get_or names k []) → ⊥
not_before names rising k lt (j, below, at) =
    let (under, same) = taken names k j (get_or names k []) below lt in
    not_itself (get_or names k [])
    (subst (λ x. IsBelow x (get_or names k [])) (sym same ∙ at)
    (subst (λ x. IsBelow (get_or names j (get_or names k [])) x) (get_or_default names k (get_or names k []) [] lt)
    (rising j k (get_or names k []) under lt)))
  where
    taken : (xs : List (List ℕ)) (i j : ℕ) (d : List ℕ) → j < length (take i xs) → i < length xs
        → (j < i) × (get_or (take i xs) j d ≡ get_or xs j d)
    taken [] i j d below lt = absurd (omega (arith, lt))
    taken (x ∷ xs) zero j d below lt = absurd (omega (arith, below))
    taken (x ∷ xs) (suc i) zero d below lt = (omega arith, refl)
    taken (x ∷ xs) (suc i) (suc j) d below lt =
        let rest = taken xs i j d (omega (arith, below)) (omega (arith, lt)) in (omega (arith, rest.0), rest.1)

module _ (name : List ℕ) where
  listed_of : (xs : List Predecessor) → All (λ p. IfSome p.within IsWithinHours) xs
      → predecessors_of (rows_of name (map single xs)) ≡ xs
  unfolding single
  listed_of [] limits = refl
  listed_of (x ∷ xs) limits =
      let within = limit_is x.within (limits zero x (omega arith)) in
      let first : predecessor_of (about name (single x)) ≡ x = λ i. record { name = x.name; within = within i } in
      ap (λ (p : Predecessor). p ∷ predecessors_of (rows_of name (map single xs))) first
      ∙ ap (λ (l : List Predecessor). x ∷ l) (listed_of xs (λ k d lt. limits (suc k) d (omega (arith, lt))))

  names_of : (xs : List Predecessor) → named_by (rows_of name (map single xs)) ≡ map name_of xs
  unfolding single
  names_of [] = refl
  names_of (x ∷ xs) = ap (λ (l : List (List ℕ)). x.name ∷ l) (names_of xs)

module _ (name : List ℕ) (listed : List Predecessor) where
  names_rise : AreRising name_of listed → AreRising (λ n. n) (map name_of listed)
  names_rise rising i j d lt within =
      let in_range : j < length listed = omega (arith, within, length-map listed name_of) in
      let at_i = get_or-map name_of listed i nobody d (omega (arith, lt, in_range)) in
      let at_j = get_or-map name_of listed j nobody d in_range in
      rw (at_i, at_j) (rising i j nobody lt in_range)

  new_name : AreRising name_of listed → (k : ℕ) → k < length listed
      → Contains (named_by (rows_of name (map single (take k listed)))) (get_or listed k nobody).name → ⊥
  new_name rising k lt has =
      let names = map name_of listed in
      let in_range : k < length names = omega (arith, lt, length-map listed name_of) in
      let front : named_by (rows_of name (map single (take k listed))) ≡ take k names =
      names_of name (take k listed) ∙ sym (take-map name_of k listed) in
      let here : (get_or listed k nobody).name ≡ get_or names k [] = sym (get_or-map name_of listed k nobody [] lt) in
      not_before names (names_rise rising) k in_range
      (subst (λ l. Contains l (get_or names k [])) front
      (subst (Contains (named_by (rows_of name (map single (take k listed))))) here has))

  pub predecessors_given : AreRising name_of listed → ArePredecessorValues name listed
      → IsGiven HasPredecessorFields FitsPredecessors ArePredecessorsOf name listed
  unfolding single
  predecessors_given rising are =
      given name HasPredecessorFields LIMITED_PREDECESSOR_FIELDS (inr refl) FitsPredecessors ArePredecessorsOf listed
      are.named (map single listed)
      (λ none. are.some (sym (listed_of name listed are.limits) ∙ ap predecessors_of none))
      (λ k lt.
      let within : k < length listed = omega (arith, length-map listed single) in
      let here : get_or (map single listed) k [] ≡ single (get_or listed k nobody) =
      get_or-map single listed k nobody [] within in
      let before : take k (map single listed) ≡ map single (take k listed) = take-map single k listed in (
        omega (arith, ap length here),
        subst (λ (r : List (List ℕ)). FitsPredecessors (rows_of name (take k (map single listed))) (about name r))
            (sym here)
            (subst (λ (l : List (List (List ℕ))).
            FitsPredecessors (rows_of name l) (about name (single (get_or listed k nobody))))
            (sym before) (record {
              is = record {
                named = are.names k nobody within;
                within = limit_fits (get_or listed k nobody).within (are.limits k nobody within);
              };
              new = new_name rising k within;
            })),
      ))
      (record {
        rising = rising;
        exactly = λ p. subst (λ (l : List Predecessor). Contains listed p ↔ Contains l p)
            (sym (listed_of name listed are.limits)) ((λ has. has), λ has. has);
      })

  pub predecessors_value : IsGiven HasPredecessorFields FitsPredecessors ArePredecessorsOf name listed
      → ArePredecessorValues name listed
  predecessors_value is =
      let begins = begun name HasPredecessorFields LIMITED_PREDECESSOR_FIELDS (inr refl) FitsPredecessors
      ArePredecessorsOf listed is in
      record {
        named = begins.named;
        some = λ none.
            let (k, lt, at) = subst (λ (l : List Predecessor). Contains l (predecessor_of begins.row)) none
            ((begins.made.exactly (predecessor_of begins.row)).1
            (Contains-map predecessor_of begins.rows begins.row begins.there)) in
            omega (arith, lt);
        names = All-weaker (Contains listed) (λ p. IsName p.name) (λ p has.
            let (row, there, same) = Contains-map_back predecessor_of begins.rows p ((begins.made.exactly p).0 has) in
            let (before, fits) = begins.each row there in
            subst (λ (q : Predecessor). IsName q.name) same fits.is.named) listed (All-contains_itself listed);
        limits = All-weaker (Contains listed) (λ p. IfSome p.within IsWithinHours) (λ p has.
            let (row, there, same) = Contains-map_back predecessor_of begins.rows p ((begins.made.exactly p).0 has) in
            let (before, fits) = begins.each row there in
            subst (λ (q : Predecessor). IfSome q.within IsWithinHours) same
            (limit_value (field row PREDECESSOR_WITHIN) fits.is.within)) listed (All-contains_itself listed);
      }
