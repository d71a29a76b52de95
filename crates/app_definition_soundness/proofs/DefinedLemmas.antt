-- What is known of a definition that some good records give.
use Rattle.std.proofs.Common.{◌≡◌, ◌≢◌, ℕ, zero, suc, ◌+◌, ◌-◌, ◌<◌, Bool, true, false, cond, List, [], ◌∷◌, length}
use Rattle.std.proofs.Common.{get_or, take, filter, refl, sym, ap, subst, ◌∙◌, inl, inr, arith, Option, None, Some}
use Rattle.std.specs.Prelude.{nat_eq}
use Rattle.std.specs.Cmp.Lexicographic.{pointwise}
use Rattle.std.specs.FinMap as map
use Rattle.std.proofs.lemmas.List.{get_or-take, get_or_default, length-take-le}
use Rattle.work_calendars.specs.Calendar.{CalendarEntries}
use Rattle.work_calendars.specs.Day.{IsDay}
use Rattle.work_calendars.specs.Spelling.{SpellsDay}
use Rattle.work_calendars.specs.declared.statuses.DayStatus.{DayStatus}
use Rattle.work_calendars.proofs.SpellingFacts.{SpellsDay-one_day}
use Rattle.plan_periods.specs.Period.{EndsFromOrigin, Entry, IsSoundPeriod}
use Rattle.plan_periods.specs.declared.periods.Period.{Period}
use Rattle.plan_periods.specs.declared.periods.Period.TheVariants.{All as AllDays, Work, Listed}
use Rattle.run_cycles.specs.declared.cycles.RunCycle.{RunCycle}
use Rattle.app_definition_records.specs.ByName.{records_of}
use Rattle.app_definition_records.specs.Calendars.{FitsCalendar, IsCalendarOf, IsListedBy}
use Rattle.app_definition_records.specs.CycleRecords.{AreRunCyclesOf, FitsRunCycle}
use Rattle.app_definition_records.specs.Fields.{field}
use Rattle.app_definition_records.specs.Periods.{BeginsPeriod, FitsPeriod, GoesOnPeriod, HasInterval, IsPeriodOf}
use Rattle.app_definition_records.specs.Periods.{GiveEntries}
use Rattle.app_definition_records.specs.Records.{Record, Records}
use Rattle.app_definition_records.specs.Rising.{AreRising}
use Rattle.app_definition_records.specs.FieldCounts.{HasCalendarFields, HasCycleFields, HasPeriodFields}
use Rattle.app_definition_records.specs.declared.columns.TheConstants.{NAME}
use Rattle.app_definition_records.specs.declared.columns.TheConstants.{PERIOD_ORIGIN, PERIOD_TYPE}
use Rattle.app_definition_records.proofs.ByNameLemmas.{same_name}
use Rattle.app_definition_soundness.specs.Given.{IsGiven}

-- where a record that passes a test stands in the whole list, with those before it that pass
abbrev Stands : (Record → Bool) → Records → Records → ℕ → Type 0
Stands p rows kept k = (place : ℕ) × (place < length rows) × (get_or rows place [] ≡ get_or kept k [])
    × (p (get_or rows place []) ≡ true) × (filter p (take place rows) ≡ take k kept)

module _ (p : Record → Bool) (r : Record) (rows : Records)
    (later : (k : ℕ) → k < length (filter p rows) → Stands p rows (filter p rows) k) where
  front : {b : Bool} → p r ≡ b → (place : ℕ)
      → filter p (take (suc place) (r ∷ rows)) ≡ cond b (r ∷ filter p (take place rows)) (filter p (take place rows))
  front is place = ap (λ b. cond b (r ∷ filter p (take place rows)) (filter p (take place rows))) is

  taken : (k : ℕ) → p r ≡ true → k < length (r ∷ filter p rows) → Stands p (r ∷ rows) (r ∷ filter p rows) k
  taken zero is more = (zero, omega arith, refl, is, refl)
  taken (suc k) is more =
      let (place, below, at, passes, before) = later k (omega (arith, more)) in
      (suc place, omega (arith, below), at, passes, front is place ∙ ap (λ (l : Records). r ∷ l) before)

  passed : (k : ℕ) → p r ≡ false → k < length (filter p rows) → Stands p (r ∷ rows) (filter p rows) k
  passed k is more =
      let (place, below, at, passes, before) = later k more in
      (suc place, omega (arith, below), at, passes, front is place ∙ before)

stands : (p : Record → Bool) (rows : Records) (k : ℕ) → k < length (filter p rows) → Stands p rows (filter p rows) k
stands p [] k lt = absurd (omega (arith, lt))
stands p (r ∷ rows) k lt = elim (p r) as (λ b. p r ≡ b → k < length (cond b (r ∷ filter p rows) (filter p rows))
    → Stands p (r ∷ rows) (cond b (r ∷ filter p rows) (filter p rows)) k) [
      | true ↦ λ is more. taken p r rows (stands p rows) k is more
      | false ↦ λ is more. passed p r rows (stands p rows) k is more
    ] refl lt

module _ {D : Type 0} (HasFields : ℕ → Type 0) (Fits : Records → Record → Type 0) (IsMadeOf : D → Records → Type 0) where
  -- records about one name, each good after those before it, and what they make
  pub record Made (d : D) : Type 0 where
    pub rows : Records
    pub some : rows ≢ []
    pub made : IsMadeOf d rows
    pub fits : (k : ℕ) → k < length rows → Fits (take k rows) (get_or rows k [])

  pub made_of : (name : List ℕ) (d : D) → IsGiven HasFields Fits IsMadeOf name d → Made d
  made_of name d (rows, good, by) = record {
    rows = records_of name rows;
    some = by.0;
    made = by.1;
    fits = λ k lt.
        let (place, below, at, passes, before) = stands (λ row. pointwise nat_eq (field row NAME) name) rows k lt in
        let own : field (get_or rows place []) NAME ≡ name = same_name (field (get_or rows place []) NAME) name passes in
        let first : records_of (field (get_or rows place []) NAME) (take place rows) ≡ take k (records_of name rows) =
        ap (λ n. records_of n (take place rows)) own ∙ before in
        subst (Fits (take k (records_of name rows))) at
        (subst (λ (l : Records). Fits l (get_or rows place [])) first (good place below).fits);
  }

-- ---- calendars

dated : (o : Option DayStatus) (status : DayStatus) (day : ℕ) (rows : Records) → o ≡ Some status
    → IsListedBy o (λ text. SpellsDay text day) rows → IsDay day
dated None status day rows is listed = cc
dated (Some status) other day rows is (row, there, spells, same) = spells.in_range

module _ (name : List ℕ) (c : CalendarEntries)
    (is : IsGiven HasCalendarFields FitsCalendar IsCalendarOf name c) where
  pub calendar_week : length c.weekdays ≡ 7
  calendar_week = (made_of HasCalendarFields FitsCalendar IsCalendarOf name c is).made.week

  pub calendar_days : (day : ℕ) (status : DayStatus) → map.get c.dates day ≡ Some status → IsDay day
  calendar_days day status at =
      let made = made_of HasCalendarFields FitsCalendar IsCalendarOf name c is in
      dated (map.get c.dates day) status day made.rows at (made.made.dates day)

-- ---- run cycles

pub cycles_rise : (name : List ℕ) (cycles : List RunCycle) → IsGiven HasCycleFields FitsRunCycle AreRunCyclesOf name cycles
    → AreRising (λ cycle. cycle.name) cycles
cycles_rise name cycles is = (made_of HasCycleFields FitsRunCycle AreRunCyclesOf name cycles is).made.rising

-- ---- periods

-- a first record of another type has an interval
with_interval : (row : Record) (letter : ℕ) → BeginsPeriod row → field row PERIOD_TYPE ≡ letter ∷ []
    → letter ≢ 78 → HasInterval row
with_interval row letter (short, inl (type, origin, long)) is other = long
with_interval row letter (short, inr (type, entry)) is other =
    let e : letter ≡ 78 = ap (λ (l : List ℕ). get_or l 0 0) (sym is ∙ type) in absurd (other e)

first_fits : (row : Record) → FitsPeriod [] row → BeginsPeriod row
first_fits row fits = fits

later_fits : (rows : Records) (row : Record) → 0 < length rows → FitsPeriod rows row → GoesOnPeriod rows row
later_fits [] row some fits = absurd (omega (arith, some))
later_fits (first ∷ more) row some fits = fits

some_of : (rows : Records) → rows ≢ [] → 0 < length rows
some_of [] some = absurd (some refl)
some_of (x ∷ rows) some = omega arith

module _ (entries : List Entry) (rows : Records) (give : GiveEntries rows entries)
    (fits : (k : ℕ) → k < length rows → FitsPeriod (take k rows) (get_or rows k [])) where
  ends : (k : ℕ) (d : Entry) → k < length entries → EndsFromOrigin (get_or entries k d)
  ends k d lt = subst EndsFromOrigin (get_or_default entries k (0, None) d lt)
      (give.each k (omega (arith, give.same_length))).2

  -- the record at a place spells the origin there
  origin_at : (k : ℕ) (d : Entry) → k < length entries
      → SpellsDay (field (get_or rows k []) PERIOD_ORIGIN) (get_or entries k d).0
  origin_at k d lt = subst (λ (e : Entry). SpellsDay (field (get_or rows k []) PERIOD_ORIGIN) e.0)
      (get_or_default entries k (0, None) d lt) (give.each k (omega (arith, give.same_length))).0

  rise : (k : ℕ) (d : Entry) → k + 1 < length entries → (get_or entries k d).0 < (get_or entries (k + 1) d).0
  rise k d lt =
      let e = give.same_length in
      let long : length (take (k + 1) rows) ≡ k + 1 = length-take-le (k + 1) rows (omega arith) in
      let (type, own, (entry, gives, later)) = later_fits (take (k + 1) rows) (get_or rows (k + 1) []) (omega arith)
      (fits (k + 1) (omega arith)) in
      let last : get_or (take (k + 1) rows) (length (take (k + 1) rows) - 1) [] ≡ get_or rows k [] =
      ap (λ n. get_or (take (k + 1) rows) n []) (let same : length (take (k + 1) rows) - 1 ≡ k = omega arith in same)
      ∙ get_or-take (k + 1) rows k [] (omega arith) in
      let below = later (get_or entries k d).0
      (subst (λ (r : Record). SpellsDay (field r PERIOD_ORIGIN) (get_or entries k d).0) (sym last)
      (origin_at k d (omega arith))) in
      let same = SpellsDay-one_day (field (get_or rows (k + 1) []) PERIOD_ORIGIN) entry.0
      (get_or entries (k + 1) d).0 gives.0 (origin_at (k + 1) d (omega arith)) in
      omega (arith, below, same)

pub period_sound : (name : List ℕ) (p : Period) → IsGiven HasPeriodFields FitsPeriod IsPeriodOf name p → IsSoundPeriod p
period_sound name p is =
    let made = made_of HasPeriodFields FitsPeriod IsPeriodOf name p is in
    sound p made.rows made.some made.made made.fits
  where
    sound : (p : Period) (rows : Records) → rows ≢ [] → IsPeriodOf p rows
        → ((k : ℕ) → k < length rows → FitsPeriod (take k rows) (get_or rows k [])) → IsSoundPeriod p
    sound (AllDays origin interval) rows some made fits =
        let long = with_interval (get_or rows 0 []) 65 (first_fits (get_or rows 0 []) (fits 0 (some_of rows some))) made.0
        (λ same. omega (arith, same)) in
        (omega (arith, made.2, long.1), omega (arith, made.2, long.0.1))
    sound (Work origin interval) rows some made fits =
        let long = with_interval (get_or rows 0 []) 87 (first_fits (get_or rows 0 []) (fits 0 (some_of rows some))) made.0
        (λ same. omega (arith, same)) in
        (omega (arith, made.2, long.1), omega (arith, made.2, long.0.1))
    sound (Listed entries) rows some made fits = (
      omega (arith, some_of rows some, made.1.same_length),
      (λ k d lt. ends entries rows made.1 fits k d lt),
      λ k d lt. rise entries rows made.1 fits k d lt,
    )
