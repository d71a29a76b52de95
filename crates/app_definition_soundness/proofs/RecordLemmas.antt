-- Records about one name, and what good records about it begin with.
use Rattle.std.proofs.Common.{◌≡◌, ◌≢◌, ℕ, zero, suc, ◌+◌, ◌<◌, ◌++◌, inl, inr, true, false, cond, List, [], ◌∷◌}
use Rattle.std.proofs.Common.{length, get_or, take, map}
use Rattle.std.proofs.Common.{filter, refl, sym, ap, subst, ◌∙◌, arith}
use Rattle.std.specs.Prelude.{nat_eq, Bool}
use Rattle.std.specs.Cmp.Lexicographic.{pointwise}
use Rattle.std.specs.List.{Contains}
use Rattle.std.proofs.lemmas.List.{get_or-map, get_or_append_left, get_or_default, get_or_push, length-append}
use Rattle.std.proofs.lemmas.List.{length-map}
use Rattle.std.proofs.lemmas.List.{take-append-le, take-map}
use Rattle.std.proofs.Math.Seq.{take-append_seam}
use Rattle.std.proofs.lemmas.Bool.{cases_lt}
use Rattle.work_calendars.specs.Name.{IsName}
use Rattle.app_definition_records.specs.ByName.{FitsKind, IsAsLong, records_of}
use Rattle.app_definition_records.specs.Fields.{field}
use Rattle.app_definition_records.specs.Records.{Record, Records}
use Rattle.app_definition_records.specs.declared.columns.TheConstants.{NAME}
use Rattle.app_definition_records.proofs.ByNameLemmas.{name_itself, same_name}
use Rattle.app_definition_soundness.specs.Given.{IsGiven}

-- the records of a list that pass a test are records of it
further : (r : Record) (rows : Records) (row : Record) → Contains rows row → Contains (r ∷ rows) row
further r rows row (k, lt, at) = (suc k, omega arith, at)

first_or_later : (r : Record) (kept rows : Records) (row : Record) → ((row : Record) → Contains kept row
    → Contains rows row) → Contains (r ∷ kept) row → Contains (r ∷ rows) row
first_or_later r kept rows row part (zero, lt, at) = (zero, omega arith, at)
first_or_later r kept rows row part (suc k, lt, at) = further r rows row (part row (k, omega arith, at))

kept_in : (p : Record → Bool) (rows : Records) (row : Record) → Contains (filter p rows) row → Contains rows row
kept_in p [] row (k, lt, at) = absurd (omega arith)
kept_in p (r ∷ rows) row there = elim (p r) as (λ b. Contains (cond b (r ∷ filter p rows) (filter p rows)) row
    → Contains (r ∷ rows) row) [
      | true ↦ λ at. first_or_later r (filter p rows) rows row (kept_in p rows) at
      | false ↦ λ at. further r rows row (kept_in p rows row at)
    ] there

module _ (name : List ℕ) where
  -- a record about the name, with these further fields
  abbrev pub about : List (List ℕ) → Record
  about rest = name ∷ rest

  abbrev pub rows_of : List (List (List ℕ)) → Records
  rows_of rests = map about rests

  pub all_about : (rests : List (List (List ℕ))) → records_of name (rows_of rests) ≡ rows_of rests
  all_about [] = refl
  all_about (rest ∷ rests) =
      ap (λ b. cond b (about rest ∷ records_of name (rows_of rests)) (records_of name (rows_of rests)))
      (name_itself name)
      ∙ ap (λ (l : Records). about rest ∷ l) (all_about rests)

  -- a record is as long as the first, where all have that many fields
  as_long_of : (count : ℕ) (rests : List (List (List ℕ))) (k : ℕ) (row : Record) → length row ≡ count
      → ((j : ℕ) → j < length rests → length (get_or rests j []) + 1 ≡ count) → IsAsLong (take k (rows_of rests)) row
  as_long_of count [] zero row long all = tt
  as_long_of count [] (suc k) row long all = tt
  as_long_of count (r ∷ rests) zero row long all = tt
  as_long_of count (r ∷ rests) (suc k) row long all = let first = all zero (omega arith) in omega arith

  module _ {D : Type 0} (HasFields : ℕ → Type 0) (count : ℕ) (has : HasFields count)
      (Fits : Records → Record → Type 0) (IsMadeOf : D → Records → Type 0) (d : D) where
    -- each record is good after those before it
    abbrev pub AreFitting : List (List (List ℕ)) → Type 0
    AreFitting rests = (k : ℕ) → k < length rests → (length (get_or rests k []) + 1 ≡ count)
        × Fits (rows_of (take k rests)) (about (get_or rests k []))

    pub fitting_none : AreFitting []
    fitting_none k lt = absurd (omega arith)

    -- one record more
    pub fitting_more : (rests : List (List (List ℕ))) (rest : List (List ℕ)) → AreFitting rests
        → length rest + 1 ≡ count → Fits (rows_of rests) (about rest) → AreFitting (rests ++ rest ∷ [])
    fitting_more rests rest before long fits k lt = elim (cases_lt k (length rests)) [
      | inl old ↦
          let here : get_or (rests ++ rest ∷ []) k [] ≡ get_or rests k [] =
          get_or_append_left rests (rest ∷ []) [] k old in
          let front : take k (rests ++ rest ∷ []) ≡ take k rests = take-append-le k rests (rest ∷ []) (omega arith) in
          let was = before k old in (
            omega (arith, was.0, ap length here),
            subst (λ (r : List (List ℕ)). Fits (rows_of (take k (rests ++ rest ∷ []))) (about r)) (sym here)
                (subst (λ (l : List (List (List ℕ))). Fits (rows_of l) (about (get_or rests k []))) (sym front) was.1),
          )
      | inr last ↦
          let place : length rests ≡ k = omega (arith, length-append rests (rest ∷ [])) in
          let here : get_or (rests ++ rest ∷ []) k [] ≡ rest =
          get_or_push rests rest [] k place in
          let front : take k (rests ++ rest ∷ []) ≡ rests =
          subst (λ n. take n (rests ++ rest ∷ []) ≡ rests) place (take-append_seam rests (rest ∷ [])) in (
            omega (arith, ap length here),
            subst (λ (r : List (List ℕ)). Fits (rows_of (take k (rests ++ rest ∷ []))) (about r)) (sym here)
                (subst (λ (l : List (List (List ℕ))). Fits (rows_of l) (about rest)) (sym front) fits),
          )
    ]

    pub given : IsName name → (rests : List (List (List ℕ))) → rows_of rests ≢ [] → AreFitting rests
        → IsMadeOf d (rows_of rests) → IsGiven HasFields Fits IsMadeOf name d
    given named rests some fitting made =
        let same = all_about rests in (
          rows_of rests,
          (λ k lt.
              let here : get_or (rows_of rests) k [] ≡ about (get_or rests k []) =
              get_or-map about rests k [] [] (omega (arith, length-map rests about)) in
              let fits = fitting k (omega (arith, length-map rests about)) in
              let before : records_of name (take k (rows_of rests)) ≡ rows_of (take k rests) =
              ap (records_of name) (take-map about k rests) ∙ all_about (take k rests) in
              subst (FitsKind HasFields Fits (take k (rows_of rests))) (sym here) (record {
                complete = subst HasFields (omega (arith, fits.0)) has;
                as_long = as_long_of count rests k (about (get_or rests k [])) (omega (arith, fits.0))
                    (λ j below. (fitting j below).0);
                name = named;
                fits = subst (λ (l : Records). Fits l (about (get_or rests k []))) (sym before) fits.1;
              })),
          (λ none. some (sym same ∙ none), subst (IsMadeOf d) (sym same) made),
        )

    -- what good records about a name begin with
    pub record Begun : Type 0 where
      pub named : IsName name
      pub rows : Records
      pub made : IsMadeOf d rows
      pub row : Record
      pub there : Contains rows row
      pub of_name : field row NAME ≡ name
      pub fits : Fits [] row
      pub each : (r : Record) → Contains rows r → (before : Records) × Fits before r

    -- the first record about the name
    first_about : (rows : Records) → records_of name rows ≢ [] → (k : ℕ) × (k < length rows)
        × (field (get_or rows k []) NAME ≡ name) × (records_of name (take k rows) ≡ [])
        × Contains (records_of name rows) (get_or rows k [])
    first_about [] some = absurd (some refl)
    first_about (row ∷ rows) some = elim (pointwise nat_eq (field row NAME) name)
        as (λ b. pointwise nat_eq (field row NAME) name ≡ b
        → cond b (row ∷ records_of name rows) (records_of name rows) ≢ [] → (k : ℕ) × (k < length (row ∷ rows))
        × (field (get_or (row ∷ rows) k []) NAME ≡ name) × (records_of name (take k (row ∷ rows)) ≡ [])
        × Contains (cond b (row ∷ records_of name rows) (records_of name rows)) (get_or (row ∷ rows) k [])) [
          | true ↦ λ is more.
              (zero, omega arith, same_name (field row NAME) name is, refl, (zero, omega arith, refl))
          | false ↦ λ is more.
              let (k, lt, of_name, before, there) = first_about rows more in (
                suc k,
                omega arith,
                of_name,
                ap (λ b. cond b (row ∷ records_of name (take k rows)) (records_of name (take k rows))) is ∙ before,
                there,
              )
        ] refl some

    pub begun : IsGiven HasFields Fits IsMadeOf name d → Begun
    begun (rows, good, by) =
        let (k, lt, of_name, before, there) = first_about rows by.0 in
        let fits = good k lt in
        let first : records_of (field (get_or rows k []) NAME) (take k rows) ≡ [] =
        ap (λ n. records_of n (take k rows)) of_name ∙ before in
        record {
          named = subst IsName of_name fits.name;
          rows = records_of name rows;
          made = by.1;
          row = get_or rows k [];
          there = there;
          of_name = of_name;
          fits = subst (λ (l : Records). Fits l (get_or rows k [])) first fits.fits;
          each = λ r at.
              let (j, below, is) = kept_in (λ row. pointwise nat_eq (field row NAME) name) rows r at in
              let here = good j below in
              let same : get_or rows j [] ≡ r = get_or_default rows j [] r below ∙ is in (
                records_of (field (get_or rows j []) NAME) (take j rows),
                subst (Fits (records_of (field (get_or rows j []) NAME) (take j rows))) same here.fits,
              );
        }
