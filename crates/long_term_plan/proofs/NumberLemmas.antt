-- Rows that are made under the serials after those issued.
use Rattle.std.proofs.Common.{◌≡◌, ◌≢◌, ℕ, zero, suc, ◌+◌, ◌-◌, ◌<◌, ◌≤◌, ◌++◌, true, false, cond, List, [], ◌∷◌}
use Rattle.std.proofs.Common.{length, refl, sym, ap, ap₂, subst, ◌∙◌, inl, inr, arith, Option, None, Some}
use Rattle.std.specs.Prelude.{nat_eq, nat_lt, option_map, slice_get, if◌then◌else◌}
use Rattle.std.specs.List.{Contains}
use Rattle.std.proofs.lemmas.Bool.{cases_eq, cases_lt, eq-eqb, le-ltb, lt-ltb, ne_eqb}
use Rattle.std.proofs.lemmas.List.Elements.{All-from_get_or, Contains-get_or}
use Rattle.std.proofs.lemmas.List.Kept.{AllPairs-cons}
use Rattle.occurrences.specs.declared.place.Place.TheVariants.{LongTerm}
use Rattle.occurrences.specs.declared.row.Row.{Row}
use Rattle.planner_machine.specs.declared.content.Draft.{Draft}
use Rattle.planner_machine.specs.Content.{Sets, empty_seat, seat}
use Rattle.planner_machine.specs.Moves.{bit, made, numbered_row, seat_made, size, with_made}
use Rattle.planner_machine.specs.Plans.{planned}
use Rattle.plan_store_lists.specs.Rows.{HasEachOnce, look_up, of_row}
use Rattle.plan_store_pairs.proofs.ListLemmas.{first_or_later, none}
use Rattle.plan_store_lists.proofs.LookLemmas.{look_some}
use Rattle.long_term_plan.specs.Making.{numbered}

abbrev serial_of : Row → ℕ
serial_of row = row.serial

-- ---- rows by their serials

made_low : (n : ℕ) (drafts : List Draft) (serial : ℕ) → serial ≤ n → made n drafts serial ≡ None
made_low n drafts serial low = let old : nat_lt n serial ≡ false = le-ltb n serial low in rw old refl

made_first : (n : ℕ) (draft : Draft) (more : List Draft)
    → made n (draft ∷ more) (suc n) ≡ Some (numbered_row (suc n) draft)
made_first n draft more =
    let new : nat_lt n (suc n) ≡ true = lt-ltb n (suc n) (omega arith) in
    let place : suc n - suc n ≡ 0 = omega arith in
    rw (new, place) refl

made_later : (n : ℕ) (draft : Draft) (more : List Draft) (serial : ℕ) → suc n ≢ serial
    → made (suc n) more serial ≡ made n (draft ∷ more) serial
made_later n draft more serial other = elim (cases_lt (suc n) serial) [
  | inl above ↦
      let new : nat_lt n serial ≡ true = lt-ltb n serial (omega (arith, above)) in
      let new' : nat_lt (suc n) serial ≡ true = lt-ltb (suc n) serial above in
      let place : serial - suc n ≡ suc (serial - suc (suc n)) = omega (arith, above) in
      rw (new, new', place) refl
  | inr below ↦
      let low : serial ≤ n = omega (arith, below, other) in
      made_low (suc n) more serial below ∙ sym (made_low n (draft ∷ more) serial low)
]

pub made_nothing : (n : ℕ) (serial : ℕ) → made n [] serial ≡ None
made_nothing n serial = elim (nat_lt n serial) as
    (λ b. (if b then option_map (numbered_row serial) None else None) ≡ None) [ true ↦ refl | false ↦ refl ]

-- the list of the rows is the look-up of what is made
pub numbered_look : (n : ℕ) (drafts : List Draft) (serial : ℕ)
    → look_up serial_of (numbered n drafts) serial ≡ made n drafts serial
numbered_look n [] serial = sym (made_nothing n serial)
numbered_look n (draft ∷ more) serial = elim (cases_eq (suc n) serial) [
  | inl at ↦
      let same : nat_eq (suc n) serial ≡ true = eq-eqb (suc n) serial at in
      ap (λ b. cond b (Some (numbered_row (suc n) draft)) (look_up serial_of (numbered (suc n) more) serial)) same
      ∙ sym (subst (λ m. made n (draft ∷ more) m ≡ Some (numbered_row (suc n) draft)) at (made_first n draft more))
  | inr other ↦
      let differ : nat_eq (suc n) serial ≡ false = ne_eqb (suc n) serial other in
      ap (λ b. cond b (Some (numbered_row (suc n) draft)) (look_up serial_of (numbered (suc n) more) serial)) differ
      ∙ numbered_look (suc n) more serial ∙ made_later n draft more serial other
]

-- a row of the list has a new serial, under which it is made
pub numbered_high : (n : ℕ) (drafts : List Draft) (row : Row) → Contains (numbered n drafts) row → n < row.serial
numbered_high n [] row there = absurd (none row there)
numbered_high n (draft ∷ more) row there =
    elim (first_or_later (numbered_row (suc n) draft) row (numbered (suc n) more) there) [
      | inl same ↦ let serial : suc n ≡ row.serial = ap serial_of same in omega (arith, serial)
      | inr later ↦ let high = numbered_high (suc n) more row later in omega (arith, high)
    ]

pub numbered_made : (n : ℕ) (drafts : List Draft) (row : Row) → Contains (numbered n drafts) row
    → made n drafts row.serial ≡ Some row
numbered_made n [] row there = absurd (none row there)
numbered_made n (draft ∷ more) row there =
    elim (first_or_later (numbered_row (suc n) draft) row (numbered (suc n) more) there) [
      | inl same ↦ subst (λ (x : Row). made n (draft ∷ more) x.serial ≡ Some x) same (made_first n draft more)
      | inr later ↦
          let high = numbered_high (suc n) more row later in
          sym (made_later n draft more row.serial (omega (arith, high))) ∙ numbered_made (suc n) more row later
    ]

pub made_listed : (n : ℕ) (drafts : List Draft) (serial : ℕ) (row : Row) → made n drafts serial ≡ Some row
    → Contains (numbered n drafts) row × (row.serial ≡ serial)
made_listed n drafts serial row is =
    look_some serial_of (numbered n drafts) serial row (numbered_look n drafts serial ∙ is)

pub numbered_once : (n : ℕ) (drafts : List Draft) → HasEachOnce of_row (numbered n drafts)
numbered_once n [] = λ i j d lt within. absurd (omega (arith, lt, within))
numbered_once n (draft ∷ more) =
    AllPairs-cons (λ (x y : Row). x.serial ≡ y.serial → ⊥) (numbered_row (suc n) draft) (numbered (suc n) more)
    (All-from_get_or (λ (y : Row). suc n ≡ y.serial → ⊥) (numbered (suc n) more) (numbered_row (suc n) draft)
    (λ i lt same. let high = numbered_high (suc n) more _
    (Contains-get_or (numbered (suc n) more) i (numbered_row (suc n) draft) lt) in omega (arith, high, same)))
    (numbered_once (suc n) more)

pub numbered_length : (n : ℕ) (drafts : List Draft) → length (numbered n drafts) ≡ length drafts
numbered_length n [] = refl
numbered_length n (draft ∷ more) = ap suc (numbered_length (suc n) more)

-- one more row
pub numbered_more : (n : ℕ) (front : List Draft) (draft : Draft) (number : ℕ) → number ≡ n + length front + 1
    → numbered n (front ++ draft ∷ []) ≡ numbered n front ++ numbered_row number draft ∷ []
numbered_more n [] draft number is = let same : suc n ≡ number = omega (arith, is) in
    ap (λ m. numbered_row m draft ∷ []) same
numbered_more n (x ∷ front) draft number is =
    ap (λ (l : List Row). numbered_row (suc n) x ∷ l)
    (numbered_more (suc n) front draft number (omega (arith, is)))

-- ---- how many rows the plans have then

module _ (c : Sets) (drafts : List Draft) (unissued : (serial : ℕ) → c.issued < serial → seat c serial ≡ empty_seat)
  where
    abbrev after : Sets
    after = with_made LongTerm drafts c

    ltp_low : (n : ℕ) → n ≤ c.issued → size after.ltp n ≡ size c.ltp n
    ltp_low zero le = refl
    ltp_low (suc n) le =
        ap₂ (λ x (m : Option Row). x + bit (seat_made LongTerm m (seat c (suc n))).ltp) (ltp_low n (omega (arith, le)))
        (made_low c.issued drafts (suc n) le)

    cp_low : (n : ℕ) → n ≤ c.issued → size after.cp n ≡ size c.cp n
    cp_low zero le = refl
    cp_low (suc n) le =
        ap₂ (λ x (m : Option Row). x + bit (seat_made LongTerm m (seat c (suc n))).cp) (cp_low n (omega (arith, le)))
        (made_low c.issued drafts (suc n) le)

    one_made : (k : ℕ) → k < length drafts → (row : Row) × (made c.issued drafts (suc (c.issued + k)) ≡ Some row)
    one_made k lt =
        let new : nat_lt c.issued (suc (c.issued + k)) ≡ true = lt-ltb c.issued (suc (c.issued + k)) (omega arith) in
        let place : suc (c.issued + k) - suc c.issued ≡ k = omega arith in
        let (draft, at) = slice_at drafts k lt in
        (numbered_row (suc (c.issued + k)) draft, rw (new, place, at) refl)
      where
        slice_at : (ds : List Draft) (i : ℕ) → i < length ds → (d : Draft) × (slice_get ds i ≡ Some d)
        slice_at [] i lt = absurd (omega (arith, lt))
        slice_at (d ∷ ds) zero lt = (d, refl)
        slice_at (d ∷ ds) (suc i) lt = slice_at ds i (omega (arith, lt))

    ltp_high : (k : ℕ) → k ≤ length drafts → size after.ltp (c.issued + k) ≡ size c.ltp c.issued + k
    ltp_high zero le =
        let same : c.issued + 0 ≡ c.issued = omega arith in
        let low = ltp_low c.issued (omega arith) in
        ap (size after.ltp) same ∙ low ∙ omega arith
    ltp_high (suc k) le =
        let next : c.issued + suc k ≡ suc (c.issued + k) = omega arith in
        let before = ltp_high k (omega (arith, le)) in
        let (row, at) = one_made k (omega (arith, le)) in
        let one : bit (after.ltp (suc (c.issued + k))) ≡ 1 =
        ap (λ (m : Option Row). bit (seat_made LongTerm m (seat c (suc (c.issued + k)))).ltp) at in
        ap (size after.ltp) next ∙ omega (arith, before, one)

    cp_high : (k : ℕ) → k ≤ length drafts → size after.cp (c.issued + k) ≡ size c.cp c.issued
    cp_high zero le =
        let same : c.issued + 0 ≡ c.issued = omega arith in
        ap (size after.cp) same ∙ cp_low c.issued (omega arith)
    cp_high (suc k) le =
        let next : c.issued + suc k ≡ suc (c.issued + k) = omega arith in
        let before = cp_high k (omega (arith, le)) in
        let (row, at) = one_made k (omega (arith, le)) in
        let zero_more : bit (after.cp (suc (c.issued + k))) ≡ 0 =
        ap (λ (m : Option Row). bit (seat_made LongTerm m (seat c (suc (c.issued + k)))).cp) at in
        ap (size after.cp) next ∙ omega (arith, before, zero_more)

    pub planned_after : planned after ≡ planned c + length drafts
    planned_after =
        let ltp = ltp_high (length drafts) (omega arith) in
        let cp = cp_high (length drafts) (omega arith) in
        omega (arith, ltp, cp)
