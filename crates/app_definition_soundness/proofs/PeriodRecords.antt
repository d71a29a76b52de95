-- Records of periods.
use Rattle.std.proofs.Common.{◌≡◌, ℕ, zero, suc, ◌+◌, ◌-◌, ◌<◌, ◌≤◌, List, [], ◌∷◌, length, get_or, take, map}
use Rattle.std.proofs.Common.{refl, sym, ap, subst, ◌∙◌, inl, inr, arith, Option, None, Some}
use Rattle.std.specs.Prelude.{IfSome, codes}
use Rattle.std.specs.List.{All}
use Rattle.std.proofs.lemmas.List.{get_or-map, get_or-take, get_or_default, length-map, length-take-le}
use Rattle.plan_periods.specs.Period.{EndsFromOrigin, Entry, HasRisingOrigins, IsSoundPeriod}
use Rattle.plan_periods.specs.declared.periods.Period.{Period}
use Rattle.plan_periods.specs.declared.periods.Period.TheVariants.{All as AllDays, Work, Listed}
use Rattle.plan_periods.specs.declared.periods.TheConstants.{MAX_INTERVAL}
use Rattle.work_calendars.specs.Day.{IsDay}
use Rattle.work_calendars.specs.Name.{IsName, IsShort}
use Rattle.work_calendars.specs.Spelling.{SpellsDay}
use Rattle.work_calendars.proofs.SpellingFacts.{SpellsDay-one_day}
use Rattle.app_definition_records.specs.Fields.{IsNumberUpTo, SpellsOptionalDay, field, number_value}
use Rattle.app_definition_records.specs.Periods.{BeginsPeriod, FitsPeriod, GivesEntry, GoesOnPeriod, HasInterval}
use Rattle.app_definition_records.specs.Periods.{IsPeriodOf}
use Rattle.app_definition_records.specs.Records.{Record, Records}
use Rattle.app_definition_records.specs.declared.columns.TheConstants.{PERIOD_FIELDS}
use Rattle.app_definition_records.specs.FieldCounts.{HasPeriodFields}
use Rattle.app_definition_records.specs.declared.columns.TheConstants.{PERIOD_LENGTH, PERIOD_ORIGIN}
use Rattle.app_definition_records.specs.declared.columns.TheConstants.{PERIOD_TYPE}
use Rattle.app_definition_soundness.specs.Given.{IsGiven}
use Rattle.app_definition_soundness.specs.Values.{HasDaysInRange, IsEntryValue, IsPeriodValue}
use Rattle.app_definition_soundness.proofs.NumberLemmas.{number_spelled, number_text}
use Rattle.app_definition_soundness.proofs.RecordLemmas.{about, begun, given, rows_of}
use Rattle.app_definition_soundness.proofs.TextLemmas.{day_spelled, day_text}

-- a short name is a name
pub short_named : (name : List ℕ) → IsShort name → IsName name
short_named name short = record {
  not_empty = short.not_empty;
  fits = omega (arith, short.fits);
  alphabet = short.alphabet;
  start = short.start;
}

pub end_text : Option ℕ → List ℕ
end_text None = []
end_text (Some day) = day_text day

pub end_spelled : (end : Option ℕ) → IfSome end IsDay → SpellsOptionalDay (end_text end) end
unfolding end_text
end_spelled None is = refl
end_spelled (Some day) is = day_spelled day is

-- and back
pub end_days : (text : List ℕ) (end : Option ℕ) → SpellsOptionalDay text end → IfSome end IsDay
end_days text None is = tt
end_days text (Some day) is = is.in_range

-- one record
module _ (name : List ℕ) (p : Period) (rest : List (List ℕ)) where
  pub one_given : IsName name → length rest + 1 ≡ PERIOD_FIELDS → BeginsPeriod (about name rest)
      → IsPeriodOf p (about name rest ∷ []) → IsGiven HasPeriodFields FitsPeriod IsPeriodOf name p
  one_given named long begins made =
      given name HasPeriodFields PERIOD_FIELDS refl FitsPeriod IsPeriodOf p named (rest ∷ []) (λ none. cc) (λ k lt. at k lt) made
    where
      at : (k : ℕ) → k < 1 → (length (get_or (rest ∷ []) k []) + 1 ≡ PERIOD_FIELDS)
          × FitsPeriod (rows_of name (take k (rest ∷ []))) (about name (get_or (rest ∷ []) k []))
      at zero lt = (long, begins)
      at (suc k) lt = absurd (omega arith)

-- an interval
interval_spelled : (row : Record) (n : ℕ) → field row PERIOD_LENGTH ≡ number_text n → 1 ≤ n → n ≤ MAX_INTERVAL
    → HasInterval row × (n ≡ number_value (field row PERIOD_LENGTH))
interval_spelled row n is low high =
    let spells = number_spelled n high in
    let value : number_value (field row PERIOD_LENGTH) ≡ n = ap number_value is ∙ spells.value in (
      (
        (subst (λ t. IsNumberUpTo MAX_INTERVAL t) (sym is) (spells.number, omega (arith, spells.value))),
        omega (arith, value),
      ),
      sym value,
    )

-- listed intervals
module _ (name : List ℕ) where
  entry_rest : Entry → List (List ℕ)
  entry_rest e = codes "N" ∷ day_text e.0 ∷ end_text e.1 ∷ []

  entry_given : (e : Entry) → IsEntryValue e → EndsFromOrigin e → GivesEntry (about name (entry_rest e)) e
  unfolding entry_rest
  entry_given e is ends = (day_spelled e.0 is.0, end_spelled e.1 is.1, ends)

  module _ (entries : List Entry) (short : IsShort name) (days : All IsEntryValue entries)
      (ends : All EndsFromOrigin entries) (rising : HasRisingOrigins entries) where
    row_at : (k : ℕ) (d : Entry) → k < length entries
        → get_or (map entry_rest entries) k [] ≡ entry_rest (get_or entries k d)
    row_at k d lt = get_or-map entry_rest entries k d [] lt

    gives : (k : ℕ) (d : Entry) → k < length entries
        → GivesEntry (about name (get_or (map entry_rest entries) k [])) (get_or entries k d)
    gives k d lt = subst (λ (r : List (List ℕ)). GivesEntry (about name r) (get_or entries k d)) (sym (row_at k d lt))
        (entry_given (get_or entries k d) (days k d lt) (ends k d lt))

    type_at : (k : ℕ) → k < length entries
        → field (about name (get_or (map entry_rest entries) k [])) PERIOD_TYPE ≡ codes "N"
    unfolding entry_rest
    type_at k lt = ap (λ (r : List (List ℕ)). get_or r 0 []) (row_at k (0, None) lt)

    rests : List (List (List ℕ))
    rests = map entry_rest entries

    same_length : length rests ≡ length entries
    unfolding rests
    same_length = length-map entries entry_rest

    -- the records before a place
    before : ℕ → Records
    before k = rows_of name (take k rests)

    before_length : (k : ℕ) → k ≤ length entries → length (before k) ≡ k
    unfolding before
    before_length k within =
        length-map (take k rests) (about name)
        ∙ length-take-le k rests (let e = same_length in omega arith)

    before_at : (k j : ℕ) → k ≤ length entries → j < k → get_or (before k) j [] ≡ about name (get_or rests j [])
    unfolding before
    before_at k j within below =
        let e = same_length in
        let long = length-take-le k rests (omega arith) in
        get_or-map (about name) (take k rests) j [] [] (omega arith)
        ∙ ap (about name) (get_or-take k rests j [] below)

    fits_more : (rows : Records) (row : Record) → 0 < length rows → GoesOnPeriod rows row → FitsPeriod rows row
    fits_more [] row some goes = absurd (omega (arith, some))
    fits_more (first ∷ more) row some goes = goes

    -- the record at a place is good after those before it
    fits_at : (k : ℕ) → k < length entries → FitsPeriod (before k) (about name (get_or rests k []))
    unfolding before rests
    fits_at zero lt = (short, inr (type_at zero lt, (get_or entries zero (0, None), gives zero (0, None) lt)))
    fits_at (suc k) lt =
        let entry : Entry = get_or entries (suc k) (0, None) in
        let was : Entry = get_or entries k (0, None) in
        let long : length (before (suc k)) ≡ suc k = before_length (suc k) (omega arith) in
        let first : get_or (before (suc k)) 0 [] ≡ about name (get_or rests 0 []) =
        before_at (suc k) 0 (omega arith) (omega arith) in
        let last : get_or (before (suc k)) k [] ≡ about name (get_or rests k []) =
        before_at (suc k) k (omega arith) (omega arith) in
        let place : length (before (suc k)) - 1 ≡ k = omega (arith, long) in
        let rises : was.0 < entry.0 = subst (λ n. was.0 < (get_or entries n (0, None)).0)
        (let same : k + 1 ≡ suc k = omega arith in same) (rising k (0, None) (omega arith)) in
        fits_more (before (suc k)) (about name (get_or rests (suc k) [])) (omega (arith, long)) (
          ap (λ (r : Record). field r PERIOD_TYPE) first ∙ type_at 0 (omega arith),
          type_at (suc k) lt,
          (
            entry,
            gives (suc k) (0, None) lt,
            λ day spells.
                let at : SpellsDay (field (about name (get_or rests k [])) PERIOD_ORIGIN) day =
                subst (λ (r : Record). SpellsDay (field r PERIOD_ORIGIN) day)
                (ap (λ n. get_or (before (suc k)) n []) place ∙ last) spells in
                let one = SpellsDay-one_day (field (about name (get_or rests k [])) PERIOD_ORIGIN) day was.0 at
                (gives k (0, None) (omega arith)).0 in
                omega (arith, one, rises),
          ),
        )

    long_at : (k : ℕ) → k < length entries → length (get_or rests k []) + 1 ≡ PERIOD_FIELDS
    unfolding rests entry_rest
    long_at k lt =
        let same = ap (λ (r : List (List ℕ)). length r) (row_at k (0, None) lt) in omega (arith, same)

    pub listed_given : 0 < length entries → IsGiven HasPeriodFields FitsPeriod IsPeriodOf name (Listed entries)
    unfolding before rests
    listed_given some =
        let e = same_length in
        given name HasPeriodFields PERIOD_FIELDS refl FitsPeriod IsPeriodOf (Listed entries) (short_named name short) rests
        (λ none. let long : length (rows_of name rests) ≡ 0 = ap length none in
        omega (arith, long, length-map rests (about name)))
        (λ k lt. (long_at k (omega arith), fits_at k (omega arith))) (
          ap (λ (r : Record). field r PERIOD_TYPE) (get_or-map (about name) rests 0 [] [] (omega arith))
              ∙ type_at 0 some,
          record {
            same_length = length-map rests (about name) ∙ e;
            each = λ k lt.
                let within : k < length entries = omega (arith, length-map rests (about name)) in
                subst (λ (r : Record). GivesEntry r (get_or entries k (0, None)))
                (sym (get_or-map (about name) rests k [] [] (omega arith))) (gives k (0, None) within);
          },
        )

module _ (name : List ℕ) where
  number_rest : List ℕ → ℕ → ℕ → List (List ℕ)
  number_rest letter origin interval = letter ∷ day_text origin ∷ number_text interval ∷ []

  -- a period without a fault is given where its name is short and its days are days
  pub period_given : (p : Period) → IsSoundPeriod p → IsPeriodValue name p
      → IsGiven HasPeriodFields FitsPeriod IsPeriodOf name p
  unfolding number_rest
  period_given (AllDays origin interval) sound is =
      let rest = number_rest (codes "A") origin interval in
      let long = interval_spelled (about name rest) interval refl sound.0 sound.1 in
      one_given name (AllDays origin interval) rest (short_named name is.named) refl
      (is.named, inl (inl refl, (origin, day_spelled origin is.days), long.0))
      (refl, day_spelled origin is.days, long.1)
  period_given (Work origin interval) sound is =
      let rest = number_rest (codes "W") origin interval in
      let long = interval_spelled (about name rest) interval refl sound.0 sound.1 in
      one_given name (Work origin interval) rest (short_named name is.named) refl
      (is.named, inl (inr refl, (origin, day_spelled origin is.days), long.0))
      (refl, day_spelled origin is.days, long.1)
  period_given (Listed entries) sound is = listed_given name entries is.named is.days sound.1 sound.2 sound.0

  days_of : (p : Period) (rows : Records) → IsPeriodOf p rows → HasDaysInRange p
  days_of (AllDays origin interval) rows is = is.1.in_range
  days_of (Work origin interval) rows is = is.1.in_range
  days_of (Listed entries) rows is = λ k d lt.
      let gives = is.1.each k (omega (arith, is.1.same_length)) in
      let value : IsEntryValue (get_or entries k (0, None)) =
      (gives.0.in_range, end_days (field (get_or rows k []) PERIOD_LENGTH) (get_or entries k (0, None)).1 gives.1) in
      subst IsEntryValue (get_or_default entries k (0, None) d lt) value

  pub period_value : (p : Period) → IsGiven HasPeriodFields FitsPeriod IsPeriodOf name p → IsPeriodValue name p
  period_value p is =
      let begins = begun name HasPeriodFields PERIOD_FIELDS refl FitsPeriod IsPeriodOf p is in
      record { named = subst IsShort begins.of_name begins.fits.0; days = days_of p begins.rows begins.made }
