-- Records are read, or one of them is the first faulty one.
use Rattle.std.proofs.Common.{◌≡◌, ◌⊎◌, ℕ, zero, suc, ◌+◌, ◌-◌, ◌<◌, ◌≤◌, [], ◌∷◌, ◌++◌, length, take}
use Rattle.std.proofs.Common.{get_or, refl, sym, subst, inl, inr, arith, Option, take-suc, take_all}
use Rattle.std.specs.Cmp.Lexicographic.{slice_cmp}
use Rattle.std.specs.FinMap as map
use Rattle.std.specs.Ordering.{nat_cmp}
use Rattle.work_calendars.specs.declared.names.TheConstants.{LONGEST_NAME}
use Rattle.app_definition_records.specs.ByName.{AreGivenBy, FitsKind, IsAsLong, IsDefinedBy, records_of}
use Rattle.app_definition_records.specs.Fields.{field}
use Rattle.app_definition_records.specs.Records.{AllGood, FirstFaulty, IsGoodAt, Record, Records}
use Rattle.app_definition_records.specs.declared.columns.TheConstants.{NAME}
use Rattle.app_definition_records.proofs.ByNameLemmas.{AreGivenBy-more, AreGivenBy-none, get-inserted}
use Rattle.planner_answers.proofs.Finite.{Decided, decided_both, decided_number, decided_so}
use Rattle.planner_answers.proofs.Texts.{decided_named}

module _ {D : Type 0} (HasFields : ℕ → Type 0) (FitsName : Records → Record → Type 0) (IsMadeOf : D → Records → Type 0)
    (fields : (n : ℕ) → Decided (HasFields n))
    (fits : (before : Records) (row : Record) → Decided (FitsName before row))
    (joins : (o : Option D) (earlier : Records) (row : Record) → IsDefinedBy IsMadeOf o earlier → FitsName earlier row
    → (d : D) × IsMadeOf d (earlier ++ row ∷ [])) where
  decided_long : (before : Records) (row : Record) → Decided (IsAsLong before row)
  decided_long [] row = inl tt
  decided_long (first ∷ rest) row = decided_number (length row) (length first)

  decided_fits : (before : Records) (row : Record) → Decided (FitsKind HasFields FitsName before row)
  decided_fits before row =
      decided_so
      (λ (both, more). record { complete = both.0; as_long = both.1; name = more.0; fits = more.1 })
      (λ h. ((h.complete, h.as_long), (h.name, h.fits)))
      (decided_both (decided_both (fields (length row)) (decided_long before row))
      (decided_both (decided_named LONGEST_NAME (field row NAME)) (fits (records_of (field row NAME) before) row)))

  module _ (rows : Records) where
    abbrev IsReadTo : ℕ → Type 0
    IsReadTo n = ((k : ℕ) → k < n → IsGoodAt (FitsKind HasFields FitsName) rows k)
        × ((m : map.FinMap (slice_cmp nat_cmp) D) × AreGivenBy IsMadeOf m (take n rows))

    -- one record more, which is good
    module _ (n : ℕ) (lt : n < length rows)
        (is : FitsKind HasFields FitsName (take n rows) (get_or rows n [])) where
      good_so_far : ((k : ℕ) → k < n → IsGoodAt (FitsKind HasFields FitsName) rows k) → (k : ℕ) → k < suc n
          → IsGoodAt (FitsKind HasFields FitsName) rows k
      good_so_far good k below = elim (decided_number k n) [
        | inl same ↦ subst (IsGoodAt (FitsKind HasFields FitsName) rows) (sym same) is
        | inr differ ↦ good k (omega arith)
      ]

      given_so_far : (m : map.FinMap (slice_cmp nat_cmp) D) → AreGivenBy IsMadeOf m (take n rows)
          → (m : map.FinMap (slice_cmp nat_cmp) D) × AreGivenBy IsMadeOf m (take (suc n) rows)
      given_so_far m given =
          let (d, made) = joins (map.get m (field (get_or rows n []) NAME))
          (records_of (field (get_or rows n []) NAME) (take n rows)) (get_or rows n [])
          (given (field (get_or rows n []) NAME)) is.fits in (
            map.insert m (field (get_or rows n []) NAME) d,
            subst (AreGivenBy IsMadeOf (map.insert m (field (get_or rows n []) NAME) d)) (sym (take-suc rows n [] lt))
                (AreGivenBy-more IsMadeOf m (map.insert m (field (get_or rows n []) NAME) d) (field (get_or rows n []) NAME)
                d (take n rows) (get_or rows n []) refl (get-inserted m (field (get_or rows n []) NAME) d) given made),
          )

    -- the first that is not good
    faulty_at : (n : ℕ) → n < length rows → ((k : ℕ) → k < n → IsGoodAt (FitsKind HasFields FitsName) rows k)
        → (FitsKind HasFields FitsName (take n rows) (get_or rows n []) → ⊥)
        → (number : ℕ) × FirstFaulty (FitsKind HasFields FitsName) rows number
    faulty_at n lt good never = (
      n + 1,
      record {
        counted = omega arith;
        there = omega (arith, lt);
        faulty = λ is. never (subst (IsGoodAt (FitsKind HasFields FitsName) rows) back is);
        before = λ k below. good k (omega (arith, below));
      },
    )
      where
        back : n + 1 - 1 ≡ n
        back = omega arith

    reads_to : (n : ℕ) → n ≤ length rows
        → ((number : ℕ) × FirstFaulty (FitsKind HasFields FitsName) rows number) ⊎ IsReadTo n
    reads_to zero within =
        inr ((λ k lt. absurd (omega (arith, lt))), (map.empty, AreGivenBy-none IsMadeOf map.empty refl))
    reads_to (suc n) within = elim (reads_to n (omega (arith, within))) [
      | inl faulty ↦ inl faulty
      | inr read ↦ elim (decided_fits (take n rows) (get_or rows n [])) [
        | inl is ↦ inr (good_so_far n (omega (arith, within)) is read.0, given_so_far n (omega (arith, within)) is read.1.0 read.1.1)
        | inr never ↦ inl (faulty_at n (omega (arith, within)) read.0 never)
      ]
    ]

    -- all records
    pub read_or_faulty : ((number : ℕ) × FirstFaulty (FitsKind HasFields FitsName) rows number)
        ⊎ (AllGood (FitsKind HasFields FitsName) rows × ((m : map.FinMap (slice_cmp nat_cmp) D) × AreGivenBy IsMadeOf m rows))
    read_or_faulty = elim (reads_to (length rows) (omega arith)) [
      | inl faulty ↦ inl faulty
      | inr read ↦ inr (read.0, (read.1.0, subst (AreGivenBy IsMadeOf read.1.0) (take_all (length rows) rows (omega arith)) read.1.1))
    ]
