-- What a calendar lists after a record more.
use Rattle.std.proofs.Common.{◌≡◌, inl, inr, sym, ap, refl, ◌∙◌, ℕ, zero, suc, ◌<◌, List, [], ◌∷◌, ◌++◌, length}
use Rattle.std.proofs.Common.{cond, true, false, Bool, Option, Some, None, arith}
use Rattle.std.specs.Prelude.{IsTrue, ◌↔◌, is_some, nat_eq, not}
use Rattle.std.specs.List.{slice_index_or}
use Rattle.std.specs.FinMap as map
use Rattle.std.specs.Cmp.{nat_cmp_total, unsigned_ties}
use Rattle.std.specs.Ordering.{nat_cmp, eq_by_cmp}
use Rattle.std.specs.List.{position_or_len}
use Rattle.std.specs.FinMap.{get-empty, get-insert}
use Rattle.std.specs.Cmp.Lexicographic.{pointwise}
use Rattle.std.proofs.lemmas.Bool.{cases_eq, false≢true, eq-eqb, ne_eqb}
use Rattle.std.proofs.lemmas.List.{get_or-set_same, get_or-set_other}
use Rattle.std.proofs.lemmas.List.Elements.{Contains-push, Contains-push_cases, Contains-append_left}
use Rattle.std.proofs.Math.ListN.{length-set}
use Rattle.work_calendars.proofs.SpellingFacts.{length-SpellsDay, SpellsDay-one_day, SpellsDay-one_text}
use Rattle.work_calendars.specs.Calendar.{CalendarEntries, no_entries, with_weekday, with_date}
use Rattle.work_calendars.specs.declared.statuses.DayStatus.{DayStatus}
use Rattle.work_calendars.specs.Spelling.{SpellsDay}
use Rattle.app_definition_records.specs.Fields.{field}
use Rattle.app_definition_records.specs.Calendars.{IsListedBy, IsCalendarOf, HasNewEntry, status_of, IsWeekdayText}
use Rattle.app_definition_records.specs.Calendars.{IsStatusText, FitsCalendar, weekday_letters}
use Rattle.app_definition_records.specs.Records.{Record, Records}
use Rattle.app_definition_records.specs.declared.columns.TheConstants.{CALENDAR_ENTRY, CALENDAR_STATUS}

-- a fact at each weekday
seven : (P : ℕ → Type 0) → P 0 → P 1 → P 2 → P 3 → P 4 → P 5 → P 6 → (w : ℕ) → w < 7 → P w
seven P a b c d e f g zero h = a
seven P a b c d e f g (suc zero) h = b
seven P a b c d e f g (suc (suc zero)) h = c
seven P a b c d e f g (suc (suc (suc zero))) h = d
seven P a b c d e f g (suc (suc (suc (suc zero)))) h = e
seven P a b c d e f g (suc (suc (suc (suc (suc zero))))) h = f
seven P a b c d e f g (suc (suc (suc (suc (suc (suc zero)))))) h = g
seven P a b c d e f g (suc (suc (suc (suc (suc (suc (suc n))))))) h = absurd (omega arith)

-- the weekday of some letters
weekday_place : List ℕ → ℕ
weekday_place text = position_or_len (pointwise nat_eq text) weekday_letters

place-letters : (w : ℕ) → w < 7 → weekday_place (slice_index_or weekday_letters w []) ≡ w
unfolding weekday_place
place-letters = seven (λ w. weekday_place (slice_index_or weekday_letters w []) ≡ w) refl refl refl refl refl refl refl

letters-long : (w : ℕ) → w < 7 → length (slice_index_or weekday_letters w []) ≡ 3
letters-long = seven (λ w. length (slice_index_or weekday_letters w []) ≡ 3) refl refl refl refl refl refl refl

-- a text is that of one weekday at most, a weekday has one text, and a text of a weekday is none of a day
pub one_weekday : (text : List ℕ) (v w : ℕ) → IsWeekdayText text v → IsWeekdayText text w → v ≡ w
one_weekday text v w a b = sym (place-letters v a.0) ∙ ap weekday_place (sym a.1 ∙ b.1) ∙ place-letters w b.0

pub weekday-one_text : (w : ℕ) (s t : List ℕ) → IsWeekdayText s w → IsWeekdayText t w → s ≡ t
weekday-one_text w s t a b = a.1 ∙ sym b.1

pub weekday-no_day : (text : List ℕ) (w d : ℕ) → IsWeekdayText text w → SpellsDay text d → ⊥
weekday-no_day text w d a b =
    let three : length text ≡ 3 = ap length a.1 ∙ letters-long w a.0 in
    let ten = length-SpellsDay text d b in
    absurd (omega (arith, three, ten))

-- a calendar of no records
pub IsCalendarOf-none : IsCalendarOf no_entries []
IsCalendarOf-none =
    record {
      week = refl;
      weekdays = λ w h. let none : slice_index_or no_entries.weekdays w None ≡ None =
          seven (λ v. slice_index_or no_entries.weekdays v None ≡ None) refl refl refl refl refl refl refl w h in
          rw none (λ r has. absurd (omega (arith, has.1)));
      dates = λ d. rw (get-empty nat_cmp d) (λ r has. absurd (omega (arith, has.1)));
    }

-- an entry is new exactly where nothing is listed for it
pub new-unlisted : (listed : Option DayStatus) (IsAbout : List ℕ → Type 0) (before : Records) (row : Record)
    → ((s t : List ℕ) → IsAbout s → IsAbout t → s ≡ t) → IsAbout (field row CALENDAR_ENTRY)
    → IsListedBy listed IsAbout before
    → (is_some listed ≡ false) ↔ HasNewEntry before row
new-unlisted None IsAbout before row one about by = (λ e earlier has same. by earlier has (rw same about), λ new. refl)
new-unlisted (Some s) IsAbout before row one about by = (
  λ e. absurd (false≢true (sym e)),
  λ new. absurd
      (new by.0 by.1 (one (field by.0 CALENDAR_ENTRY) (field row CALENDAR_ENTRY) by.2 about)),
)

-- what is listed of an entry that a record more is not about
other-listed : (listed : Option DayStatus) (IsAbout : List ℕ → Type 0) (before : Records) (row : Record)
    → ¬ (IsAbout (field row CALENDAR_ENTRY)) → IsListedBy listed IsAbout before
    → IsListedBy listed IsAbout (before ++ row ∷ [])
other-listed None IsAbout before row apart by = λ r has about.
    elim (Contains-push_cases before row r has) [ inl earlier ↦ by r earlier about | inr same ↦ apart (rw same about) ]
other-listed (Some s) IsAbout before row apart by = (by.0, Contains-append_left before (row ∷ []) by.0 by.1, by.2, by.3)

-- what is listed of the entry that it is about
here-listed : (listed : Option DayStatus) (status : DayStatus) (IsAbout : List ℕ → Type 0) (before : Records)
    (row : Record)
    → listed ≡ Some status → IsAbout (field row CALENDAR_ENTRY) → status ≡ status_of (field row CALENDAR_STATUS)
    → IsListedBy listed IsAbout (before ++ row ∷ [])
here-listed listed status IsAbout before row e about is = rw e (row, Contains-push before row, about, is)

-- a record of a weekday more
pub weekday-more : (c : CalendarEntries) (before : Records) (row : Record) (w : ℕ) (status : DayStatus)
    → IsWeekdayText (field row CALENDAR_ENTRY) w → status ≡ status_of (field row CALENDAR_STATUS)
    → IsCalendarOf c before → IsCalendarOf (with_weekday c w status) (before ++ row ∷ [])
weekday-more c before row w status about is of =
    record {
      week = length-set c.weekdays w (Some status) ∙ of.week;
      weekdays = λ v h. elim (cases_eq v w) [
        | inl same ↦ let in_week : w < length c.weekdays = omega (arith, of.week, about.0) in
            here-listed (slice_index_or (with_weekday c w status).weekdays v None) status
            (λ text. IsWeekdayText text v) before row
            (ap (λ n. slice_index_or (with_weekday c w status).weekdays n None) same
            ∙ get_or-set_same c.weekdays w (Some status) None in_week) (rw same about) is
        | inr apart ↦ let kept : slice_index_or
            (with_weekday c w status).weekdays v None ≡ slice_index_or c.weekdays v None =
            get_or-set_other c.weekdays w v (Some status) None apart in
            rw kept (other-listed (slice_index_or c.weekdays v None) (λ text. IsWeekdayText text v) before row
            (λ other. apart (one_weekday (field row CALENDAR_ENTRY) v w other about)) (of.weekdays v h))
      ];
      dates = λ d. other-listed (map.get c.dates d) (λ text. SpellsDay text d) before row
          (λ spelled. weekday-no_day (field row CALENDAR_ENTRY) w d about spelled) (of.dates d);
    }

tied : (a b : ℕ) → eq_by_cmp nat_cmp a b ≡ nat_eq a b
tied a b = sym (unsigned_ties a b)

-- a record of a day more
pub date-more : (c : CalendarEntries) (before : Records) (row : Record) (day : ℕ) (status : DayStatus)
    → SpellsDay (field row CALENDAR_ENTRY) day → status ≡ status_of (field row CALENDAR_STATUS)
    → IsCalendarOf c before → IsCalendarOf (with_date c day status) (before ++ row ∷ [])
date-more c before row day status about is of =
    record {
      week = of.week;
      weekdays = λ v h. other-listed (slice_index_or c.weekdays v None) (λ text. IsWeekdayText text v) before row
          (λ other. weekday-no_day (field row CALENDAR_ENTRY) v day other about) (of.weekdays v h);
      dates = λ d. elim (cases_eq d day) [
        | inl same ↦ here-listed (map.get (with_date c day status).dates d) status (λ text. SpellsDay text d) before row
            (get-insert nat_cmp_total c.dates day status d
            ∙ ap (λ b. cond b (Some status) (map.get c.dates d)) (tied d day ∙ eq-eqb d day same))
            (rw same about) is
        | inr apart ↦ let kept : map.get (with_date c day status).dates d ≡ map.get c.dates d =
            get-insert nat_cmp_total c.dates day status d
            ∙ ap (λ b. cond b (Some status) (map.get c.dates d)) (tied d day ∙ ne_eqb d day apart) in
            rw kept (other-listed (map.get c.dates d) (λ text. SpellsDay text d) before row
            (λ other. apart (SpellsDay-one_day (field row CALENDAR_ENTRY) d day other about)) (of.dates d))
      ];
    }

-- a record of a weekday is good exactly where nothing is listed for it
pub weekday-taken : (c : CalendarEntries) (before : Records) (row : Record) (w : ℕ) (b : Bool) (listed : Bool)
    → IsWeekdayText (field row CALENDAR_ENTRY) w → IsStatusText (field row CALENDAR_STATUS) → IsCalendarOf c before
    → listed ≡ is_some (slice_index_or c.weekdays w None) → b ≡ not listed
    → IsTrue b ↔ FitsCalendar before row
weekday-taken c before row w b true about status of e is =
    let new = new-unlisted (slice_index_or c.weekdays w None) (λ text. IsWeekdayText text w) before row
    (weekday-one_text w) about (of.weekdays w about.0) in
    (λ yes. absurd (false≢true (sym is ∙ yes)), λ fits. absurd (false≢true (sym (new.1 fits.new) ∙ sym e)))
weekday-taken c before row w b false about status of e is =
    let new = new-unlisted (slice_index_or c.weekdays w None) (λ text. IsWeekdayText text w) before row
    (weekday-one_text w) about (of.weekdays w about.0) in
    (λ yes. record { entry = inl (w, about); status = status; new = new.0 (sym e) }, λ fits. is)

-- and a record of a day
pub date-taken : (c : CalendarEntries) (before : Records) (row : Record) (day : ℕ) (b : Bool) (listed : Bool)
    → SpellsDay (field row CALENDAR_ENTRY) day → IsStatusText (field row CALENDAR_STATUS) → IsCalendarOf c before
    → listed ≡ is_some (map.get c.dates day) → b ≡ not listed
    → IsTrue b ↔ FitsCalendar before row
date-taken c before row day b true about status of e is =
    let new = new-unlisted (map.get c.dates day) (λ text. SpellsDay text day) before row
    (λ s t. SpellsDay-one_text s t day) about (of.dates day) in
    (λ yes. absurd (false≢true (sym is ∙ yes)), λ fits. absurd (false≢true (sym (new.1 fits.new) ∙ sym e)))
date-taken c before row day b false about status of e is =
    let new = new-unlisted (map.get c.dates day) (λ text. SpellsDay text day) before row
    (λ s t. SpellsDay-one_text s t day) about (of.dates day) in
    (λ yes. record { entry = inr (day, about); status = status; new = new.0 (sym e) }, λ fits. is)
