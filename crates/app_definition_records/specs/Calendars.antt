-- The records of calendars: calendar, entry, status.
use Rattle.std.specs.Prelude.{◌≡◌, ◌≢◌, ◌⊎◌, ℕ, ◌<◌, List, [], ◌∷◌, length, Contains, Option, None, codes}
use Rattle.std.specs.Prelude.{MatchOption, nat_eq, if◌then◌else◌}
use Rattle.std.specs.List.{slice_index_or}
use Rattle.std.specs.Cmp.Lexicographic.{pointwise}
use Rattle.std.specs.FinMap as map
use Rattle.work_calendars.specs.Calendar.{CalendarEntries}
use Rattle.work_calendars.specs.declared.statuses.DayStatus.{DayStatus}
use Rattle.work_calendars.specs.declared.statuses.DayStatus.TheVariants.{Work, Free}
use Rattle.work_calendars.specs.Spelling.{SpellsDay}
use Rattle.app_definition_records.specs.Fields.{field, IsDayText}
use Rattle.app_definition_records.specs.Records.{Record, Records}
use Rattle.app_definition_records.specs.declared.columns.TheConstants.{CALENDAR_ENTRY, CALENDAR_STATUS}

-- the letters of each weekday, Monday first
abbrev pub weekday_letters : List (List ℕ)
weekday_letters = codes "MON" ∷ codes "TUE" ∷ codes "WED" ∷ codes "THU" ∷ codes "FRI" ∷ codes "SAT" ∷ codes "SUN" ∷ []

-- the text is that of the weekday, Monday 0
abbrev pub IsWeekdayText : List ℕ → ℕ → Type 0
IsWeekdayText text weekday = (weekday < 7) × (text ≡ slice_index_or weekday_letters weekday [])

-- a status is spelled WORK or FREE
abbrev pub IsStatusText : List ℕ → Type 0
IsStatusText text = (text ≡ codes "WORK") ⊎ (text ≡ codes "FREE")

abbrev pub status_of : List ℕ → DayStatus
status_of text = if pointwise nat_eq text (codes "WORK") then Work else Free

-- no earlier record of the name has the same second field
abbrev pub HasNewEntry : Records → Record → Type 0
HasNewEntry before row = (earlier : Record) → Contains before earlier
    → field earlier CALENDAR_ENTRY ≢ field row CALENDAR_ENTRY

-- a record after the earlier ones of its calendar: its entry is a weekday or a day, and no earlier record has it; its
-- status is WORK or FREE
pub record FitsCalendar (before : Records) (row : Record) : Type 0 where
  pub entry : ((weekday : ℕ) × IsWeekdayText (field row CALENDAR_ENTRY) weekday) ⊎ IsDayText (field row CALENDAR_ENTRY)
  pub status : IsStatusText (field row CALENDAR_STATUS)
  pub new : HasNewEntry before row

-- what is listed for an entry is the status of a record about it, and nothing where there is none
abbrev pub IsListedBy : Option DayStatus → (List ℕ → Type 0) → Records → Type 0
IsListedBy listed IsAbout rows =
    MatchOption listed ((row : Record) → Contains rows row → ¬ (IsAbout (field row CALENDAR_ENTRY)))
    (λ status. (row : Record) × Contains rows row × IsAbout (field row CALENDAR_ENTRY)
    × (status ≡ status_of (field row CALENDAR_STATUS)))

-- a calendar lists what these records of it say, and nothing else
pub record IsCalendarOf (calendar : CalendarEntries) (rows : Records) : Type 0 where
  pub week : length calendar.weekdays ≡ 7
  pub weekdays : (weekday : ℕ) → weekday < 7
      → IsListedBy (slice_index_or calendar.weekdays weekday None) (λ text. IsWeekdayText text weekday) rows
  pub dates : (day : ℕ) → IsListedBy (map.get calendar.dates day) (λ text. SpellsDay text day) rows
