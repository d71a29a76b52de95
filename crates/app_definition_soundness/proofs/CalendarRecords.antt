-- Records of calendars.
use Rattle.std.proofs.Common.{◌≡◌, ◌≢◌, ◌⊎◌, ℕ, zero, suc, ◌+◌, ◌-◌, ◌<◌, ◌≤◌, List, [], ◌∷◌, ◌++◌}
use Rattle.std.proofs.Common.{length, get_or, refl, sym, ap, subst, ◌∙◌, inl, inr, arith, Option, None, Some}
use Rattle.std.specs.Prelude.{IsSome, codes}
use Rattle.std.specs.FinMap as map
use Rattle.std.specs.List.{Contains, slice_index_or}
use Rattle.std.proofs.lemmas.Bool.{cases_eq, cases_lt}
use Rattle.std.proofs.lemmas.List.{append-nil}
use Rattle.std.proofs.lemmas.List.Elements.{Contains-append_left, Contains-push, Contains-push_cases}
use Rattle.work_calendars.specs.Calendar.{CalendarEntries}
use Rattle.work_calendars.specs.Day.{IsDay, last_day}
use Rattle.work_calendars.specs.Spelling.{SpellsDay}
use Rattle.work_calendars.specs.declared.statuses.DayStatus.{DayStatus}
use Rattle.work_calendars.specs.declared.statuses.DayStatus.TheVariants.{Free, Work}
use Rattle.work_calendars.proofs.SpellingFacts.{SpellsDay-one_day}
use Rattle.app_definition_records.specs.Calendars.{FitsCalendar, IsCalendarOf, IsListedBy, IsStatusText, IsWeekdayText}
use Rattle.app_definition_records.specs.Calendars.{status_of}
use Rattle.app_definition_records.specs.Calendars.{weekday_letters}
use Rattle.app_definition_records.specs.Fields.{IsDayText, field}
use Rattle.app_definition_records.specs.Records.{Record, Records}
use Rattle.app_definition_records.specs.declared.columns.TheConstants.{CALENDAR_FIELDS}
use Rattle.app_definition_records.specs.FieldCounts.{HasCalendarFields}
use Rattle.app_definition_records.specs.declared.columns.TheConstants.{CALENDAR_ENTRY}
use Rattle.app_definition_records.proofs.CalendarLemmas.{one_weekday, weekday-no_day}
use Rattle.app_definition_records.proofs.RisingLemmas.{Contains-map, Contains-map_back}
use Rattle.app_definition_soundness.specs.Given.{IsGiven}
use Rattle.app_definition_soundness.specs.Values.{IsCalendarValue, ListsDate, ListsWeekday}
use Rattle.app_definition_soundness.proofs.RecordLemmas.{AreFitting, about, begun, fitting_more, fitting_none, given}
use Rattle.app_definition_soundness.proofs.RecordLemmas.{rows_of}
use Rattle.app_definition_soundness.proofs.TextLemmas.{day_spelled, day_text}

status_text : DayStatus → List ℕ
status_text Work = codes "WORK"
status_text Free = codes "FREE"

status_fits : (s : DayStatus) → IsStatusText (status_text s)
unfolding status_text
status_fits Work = inl refl
status_fits Free = inr refl

status_is : (s : DayStatus) → s ≡ status_of (status_text s)
unfolding status_text
status_is Work = refl
status_is Free = refl

-- the places of entries: the weekdays, and after them the days
data PlaceOf (k : ℕ) : Type 0 where
  weekday : k < 7 → PlaceOf k
  day : 7 ≤ k → PlaceOf k

place_of : (k : ℕ) → PlaceOf k
place_of k = elim (cases_lt k 7) [ inl below ↦ weekday below | inr above ↦ day above ]

-- a text is about a place
abbrev IsAbout : ℕ → List ℕ → Type 0
IsAbout k text = IsWeekdayText text k ⊎ ((7 ≤ k) × SpellsDay text (k - 7))

one_place : (text : List ℕ) (j k : ℕ) → IsAbout j text → IsAbout k text → j ≡ k
one_place text j k (inl a) (inl b) = one_weekday text j k a b
one_place text j k (inl a) (inr b) = absurd (weekday-no_day text j (k - 7) a b.1)
one_place text j k (inr a) (inl b) = absurd (weekday-no_day text k (j - 7) b a.1)
one_place text j k (inr a) (inr b) =
    let same = SpellsDay-one_day text (j - 7) (k - 7) a.1 b.1 in omega (arith, a.0, b.0)

module _ (c : CalendarEntries) where
  listed_by : (k : ℕ) → PlaceOf k → Option DayStatus
  listed_by k (weekday below) = slice_index_or c.weekdays k None
  listed_by k (day above) = map.get c.dates (k - 7)

  text_by : (k : ℕ) → PlaceOf k → List ℕ
  text_by k (weekday below) = slice_index_or weekday_letters k []
  text_by k (day above) = day_text (k - 7)

  -- what is listed for a place, and its text
  listed_at : ℕ → Option DayStatus
  listed_at k = listed_by k (place_of k)

  text_at : ℕ → List ℕ
  text_at k = text_by k (place_of k)

  about_by : ((d : ℕ) → IsSome (map.get c.dates d) → IsDay d) → (k : ℕ) (p : PlaceOf k) → IsSome (listed_by k p)
      → IsAbout k (text_by k p)
  unfolding listed_by text_by
  about_by days k (weekday below) some = inl (below, refl)
  about_by days k (day above) some = inr (above, day_spelled (k - 7) (days (k - 7) some))

  about_at : ((d : ℕ) → IsSome (map.get c.dates d) → IsDay d) → (k : ℕ) → IsSome (listed_at k) → IsAbout k (text_at k)
  unfolding listed_at text_at
  about_at days k some = about_by days k (place_of k) some

  listed_weekday : (k : ℕ) → k < 7 → listed_at k ≡ slice_index_or c.weekdays k None
  unfolding listed_at listed_by
  listed_weekday k below = at (place_of k)
    where
      at : (p : PlaceOf k) → listed_by k p ≡ slice_index_or c.weekdays k None
      at (weekday lt) = refl
      at (day above) = absurd (omega arith)

  listed_day : (d : ℕ) → listed_at (d + 7) ≡ map.get c.dates d
  unfolding listed_at listed_by
  listed_day d = at (place_of (d + 7))
    where
      at : (p : PlaceOf (d + 7)) → listed_by (d + 7) p ≡ map.get c.dates d
      at (weekday lt) = absurd (omega arith)
      at (day above) = ap (λ n. map.get c.dates n) (let same : d + 7 - 7 ≡ d = omega arith in same)

  -- the fields of a record about a place, after the name
  entry : ℕ → DayStatus → List (List ℕ)
  entry k status = text_at k ∷ status_text status ∷ []

  entry_by : (k : ℕ) → Option DayStatus → List (List (List ℕ))
  entry_by k None = []
  entry_by k (Some status) = entry k status ∷ []

  -- those of all entries before a place
  entries : ℕ → List (List (List ℕ))
  entries zero = []
  entries (suc k) = entries k ++ entry_by k (listed_at k)

  -- an entry of a place
  abbrev IsEntry : ℕ → List (List ℕ) → Type 0
  IsEntry n rest = (k : ℕ) × (k < n) × (status : DayStatus) × (listed_at k ≡ Some status) × (entry k status ≡ rest)

  later : (n : ℕ) (rest : List (List ℕ)) → IsEntry n rest → IsEntry (suc n) rest
  later n rest (k, lt, status, listed, same) = (k, omega arith, status, listed, same)

  entries_are : (n : ℕ) (rest : List (List ℕ)) → Contains (entries n) rest → IsEntry n rest
  unfolding entries entry_by
  entries_are zero rest (k, lt, at) = absurd (omega arith)
  entries_are (suc n) rest there =
      elim (listed_at n) as (λ o. listed_at n ≡ o → Contains (entries n ++ entry_by n o) rest → IsEntry (suc n) rest) [
        | None ↦ λ is has. later n rest (entries_are n rest
            (subst (λ (l : List (List (List ℕ))). Contains l rest) (append-nil (entries n)) has))
        | Some status ↦ λ is has. elim (Contains-push_cases (entries n) (entry n status) rest has) [
          | inl before ↦ later n rest (entries_are n rest before)
          | inr same ↦ (n, omega arith, status, is, same)
        ]
      ] refl there

  last_entry : (n : ℕ) (rest : List (List ℕ)) (status : DayStatus) → entry n status ≡ rest
      → Contains (entries n ++ entry_by n (Some status)) rest
  unfolding entry_by
  last_entry n rest status is =
      subst (Contains (entries n ++ entry n status ∷ [])) is (Contains-push (entries n) (entry n status))

  are_entries : (n : ℕ) (rest : List (List ℕ)) → IsEntry n rest → Contains (entries n) rest
  unfolding entries
  are_entries zero rest (k, lt, status, listed, same) = absurd (omega arith)
  are_entries (suc n) rest (k, lt, status, listed, same) = elim (cases_eq k n) [
    | inl here ↦
        subst (λ (o : Option DayStatus). Contains (entries n ++ entry_by n o) rest)
        (sym (subst (λ j. listed_at j ≡ Some status) here listed))
        (last_entry n rest status (subst (λ j. entry j status ≡ rest) here same))
    | inr other ↦ Contains-append_left (entries n) (entry_by n (listed_at n)) rest
        (are_entries n rest (k, omega arith, status, listed, same))
  ]

  some_is : (o : Option DayStatus) (status : DayStatus) → o ≡ Some status → IsSome o
  some_is o status is = subst IsSome (sym is) refl

  module _ (name : List ℕ) (days : (d : ℕ) → IsSome (map.get c.dates d) → IsDay d) where
    -- the text of an entry
    entry_about : (n : ℕ) (rest : List (List ℕ)) → (is : IsEntry n rest) → IsAbout is.0 (get_or rest 0 [])
    unfolding entry
    entry_about n rest (k, lt, status, listed, same) =
        subst (IsAbout k) (ap (λ (r : List (List ℕ)). get_or r 0 []) same)
        (about_at days k (some_is (listed_at k) status listed))

    entry_fits : (k : ℕ) (text : List ℕ) → IsAbout k text
        → ((weekday : ℕ) × IsWeekdayText text weekday) ⊎ IsDayText text
    entry_fits k text (inl a) = inl (k, a)
    entry_fits k text (inr a) = inr (k - 7, a.1)

    -- a further entry is good after those before it
    fits_after : (n : ℕ) (status : DayStatus) → listed_at n ≡ Some status
        → FitsCalendar (rows_of name (entries n)) (about name (entry n status))
    unfolding entry
    fits_after n status is =
        let own = about_at days n (some_is (listed_at n) status is) in
        record {
          entry = entry_fits n (text_at n) own;
          status = status_fits status;
          new = λ earlier there same.
              let (rest, at, made) = Contains-map_back (about name) (entries n) earlier there in
              let has = entries_are n rest at in
              let text : get_or rest 0 [] ≡ text_at n = ap (λ (r : Record). field r CALENDAR_ENTRY) made ∙ same in
              let one = one_place (text_at n) has.0 n (subst (IsAbout has.0) text (entry_about n rest has)) own in
              omega (arith, has.1, one);
        }

    -- so all are good
    all_fit : (n : ℕ) → AreFitting name HasCalendarFields CALENDAR_FIELDS refl FitsCalendar IsCalendarOf c (entries n)
    unfolding entries entry_by entry
    all_fit zero = fitting_none name HasCalendarFields CALENDAR_FIELDS refl FitsCalendar IsCalendarOf c
    all_fit (suc n) =
        elim (listed_at n) as (λ o. listed_at n ≡ o
        → AreFitting name HasCalendarFields CALENDAR_FIELDS refl FitsCalendar IsCalendarOf c (entries n ++ entry_by n o)) [
          | None ↦ λ is. subst (AreFitting name HasCalendarFields CALENDAR_FIELDS refl FitsCalendar IsCalendarOf c)
              (sym (append-nil (entries n))) (all_fit n)
          | Some status ↦ λ is.
              fitting_more name HasCalendarFields CALENDAR_FIELDS refl FitsCalendar IsCalendarOf c (entries n) (entry n status) (all_fit n)
              refl
              (fits_after n status is)
        ] refl

    -- what the records list for a place
    listed_rows : (n k : ℕ) → (IsSome (listed_at k) → k < n)
        → IsListedBy (listed_at k) (IsAbout k) (rows_of name (entries n))
    unfolding entry
    listed_rows n k low =
        elim (listed_at k) as (λ o. listed_at k ≡ o → IsListedBy o (IsAbout k) (rows_of name (entries n))) [
          | None ↦ λ is row there own.
              let (rest, at, made) = Contains-map_back (about name) (entries n) row there in
              let has = entries_are n rest at in
              let text : get_or rest 0 [] ≡ field row CALENDAR_ENTRY =
              ap (λ (r : Record). field r CALENDAR_ENTRY) made in
              let one = one_place (field row CALENDAR_ENTRY) has.0 k
              (subst (IsAbout has.0) text (entry_about n rest has)) own in
              let wrong : None ≡ Some has.2 = sym is ∙ subst (λ j. listed_at j ≡ Some has.2) one has.3 in cc
          | Some status ↦ λ is. (
            about name (entry k status),
            Contains-map (about name) (entries n) (entry k status)
                (are_entries n (entry k status) (k, low (some_is (listed_at k) status is), status, is, refl)),
            about_at days k (some_is (listed_at k) status is),
            status_is status,
          )
        ] refl

  listed_same : (o : Option DayStatus) (P Q : List ℕ → Type 0) (rows : Records) → ((t : List ℕ) → P t → Q t)
      → ((t : List ℕ) → Q t → P t) → IsListedBy o P rows → IsListedBy o Q rows
  listed_same None P Q rows to from none = λ row there own. none row there (from (field row CALENDAR_ENTRY) own)
  listed_same (Some status) P Q rows to from (row, there, own, is) =
      (row, there, to (field row CALENDAR_ENTRY) own, is)

  -- one place more than there are weekdays and days
  places : ℕ
  places = last_day + 8

  places_are : places ≡ last_day + 8
  unfolding places
  places_are = refl

  module _ (name : List ℕ) (week : length c.weekdays ≡ 7)
      (days : (d : ℕ) → IsSome (map.get c.dates d) → IsDay d) where
    abbrev rows : Records
    rows = rows_of name (entries places)

    are_listed : IsCalendarOf c rows
    are_listed = record {
      week = week;
      weekdays = λ w below.
          listed_same (slice_index_or c.weekdays w None) (IsAbout w) (λ t. IsWeekdayText t w) rows
          (λ t own. weekday_about t w below own) (λ t own. inl own)
          (subst (λ o. IsListedBy o (IsAbout w) rows) (listed_weekday w below)
          (listed_rows name days places w (λ some. omega (arith, places_are))));
      dates = λ d.
          listed_same (map.get c.dates d) (IsAbout (d + 7)) (λ t. SpellsDay t d) rows (λ t own. day_about t d own)
          (λ t own. inr (omega arith, subst (SpellsDay t) (let same : d ≡ d + 7 - 7 = omega arith in same) own))
          (subst (λ o. IsListedBy o (IsAbout (d + 7)) rows) (listed_day d)
          (listed_rows name days places (d + 7) (λ some.
          let in_range = days d (subst IsSome (listed_day d) some) in omega (arith, places_are, in_range.1))));
    }
      where
        weekday_about : (t : List ℕ) (w : ℕ) → w < 7 → IsAbout w t → IsWeekdayText t w
        weekday_about t w below (inl own) = own
        weekday_about t w below (inr own) = absurd (omega (arith, own.0))

        day_about : (t : List ℕ) (d : ℕ) → IsAbout (d + 7) t → SpellsDay t d
        day_about t d (inl own) = absurd (omega (arith, own.0))
        day_about t d (inr own) = subst (SpellsDay t) (let same : d + 7 - 7 ≡ d = omega arith in same) own.1

    some_place : ListsWeekday c ⊎ ListsDate c → (k : ℕ) × (k < places) × IsSome (listed_at k)
    some_place (inl (w, below, some)) =
        (w, omega (arith, places_are), subst IsSome (sym (listed_weekday w below)) some)
    some_place (inr (d, some)) =
        let in_range = days d some in
        (d + 7, omega (arith, places_are, in_range.1), subst IsSome (sym (listed_day d)) some)

    some_entry : (k : ℕ) → k < places → (o : Option DayStatus) → listed_at k ≡ o → IsSome o → rows ≢ []
    some_entry k below None is some = cc
    some_entry k below (Some status) is some = λ none.
        let (j, lt, at) = subst (λ (l : Records). Contains l (about name (entry k status))) none
        (Contains-map (about name) (entries places) (entry k status)
        (are_entries places (entry k status) (k, below, status, is, refl))) in
        omega (arith, lt)

    pub calendar_given : IsCalendarValue name c → IsGiven HasCalendarFields FitsCalendar IsCalendarOf name c
    calendar_given is =
        let (k, below, some) = some_place is.some in
        given name HasCalendarFields CALENDAR_FIELDS refl FitsCalendar IsCalendarOf c is.named (entries places)
        (some_entry k below (listed_at k) refl some) (all_fit name days places) are_listed

  listed_some : (o : Option DayStatus) (P : List ℕ → Type 0) (all : Records) (row : Record) → IsListedBy o P all
      → Contains all row → P (field row CALENDAR_ENTRY) → IsSome o
  listed_some None P all row none there own = absurd (none row there own)
  listed_some (Some status) P all row listed there own = refl

  pub calendar_value : (name : List ℕ) → IsGiven HasCalendarFields FitsCalendar IsCalendarOf name c
      → IsCalendarValue name c
  calendar_value name is =
      let begins = begun name HasCalendarFields CALENDAR_FIELDS refl FitsCalendar IsCalendarOf c is in
      record {
        named = begins.named;
        some = elim begins.fits.entry [
          | inl named ↦ inl (
            named.0,
            named.1.0,
            listed_some (slice_index_or c.weekdays named.0 None) (λ t. IsWeekdayText t named.0) begins.rows begins.row
                (begins.made.weekdays named.0 named.1.0) begins.there named.1,
          )
          | inr dated ↦ inr (
            dated.0,
            listed_some (map.get c.dates dated.0) (λ t. SpellsDay t dated.0) begins.rows begins.row
                (begins.made.dates dated.0) begins.there dated.1,
          )
        ];
      }
