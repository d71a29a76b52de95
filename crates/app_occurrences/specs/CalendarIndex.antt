-- The index of work days of one calendar, with what that calendar lists.
use Rattle.std.specs.Prelude.{◌≡◌, ℕ, Bool, List, Option}
use Rattle.std.specs.FinMap as map
use Rattle.work_calendars.specs.Calendar.{CalendarEntries, is_work_day}
use Rattle.work_calendars.specs.WorkIndex.{is_work_in}
use Rattle.work_calendars.specs.declared.statuses.DayStatus.{DayStatus}

-- what a calendar lists of weekdays from Monday on, and of dates
abbrev pub entries_of : List (Option DayStatus) → List (ℕ × DayStatus) → CalendarEntries
entries_of weekdays dates = record { weekdays = weekdays; dates = map.from_entries dates }

-- the index is that of the calendar that lists these
abbrev pub IsIndexOf : List (Option DayStatus) → List (ℕ × DayStatus) → List Bool → Type 0
IsIndexOf weekdays dates index = (d : ℕ) → is_work_in index d ≡ is_work_day (entries_of weekdays dates) d
