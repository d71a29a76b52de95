-- What contracts see of a calendar, and its work days.
use Rattle.std.specs.Prelude.{ℕ, Bool, true, false, ◌&&◌, List, [], ◌∷◌, Option, Some, None, slice_set, refl}
use Rattle.std.specs.List.{slice_index_or}
use Rattle.std.specs.Option.{unwrap_or}
use Rattle.std.specs.Ordering.{nat_cmp}
use Rattle.std.specs.FinMap as map
use Rattle.std.specs.Coded.{Coded, code_by, coded×, coded_list, coded_option, coded_ℕ}
use Rattle.work_calendars.specs.Day.{is_day, weekday_of_day}
use Rattle.work_calendars.specs.declared.statuses.DayStatus.{DayStatus}
use Rattle.work_calendars.specs.declared.statuses.DayStatus.TheVariants.{Work, Free}

-- what a calendar lists: the status of each weekday from Monday on, where it is listed, and of each listed date
pub record CalendarEntries : Type 0 where
  pub weekdays : List (Option DayStatus)
  pub dates : map.FinMap nat_cmp DayStatus

-- entries are stored as the pair of their fields
abbrev pub entries_code : Coded DayStatus → Coded CalendarEntries
entries_code s =
    code_by (List (Option DayStatus) × map.FinMap nat_cmp DayStatus)
    (coded× (coded_list (coded_option s)) (map.code coded_ℕ s)) (λ e. (
      e.weekdays,
      e.dates,
    )) (λ p. record { weekdays = p.0; dates = p.1 }) (λ _. refl)

abbrev pub is_work_status : DayStatus → Bool
is_work_status Work = true
is_work_status Free = false

-- a weekday that is not listed is one of work days
abbrev pub weekday_status : CalendarEntries → ℕ → DayStatus
weekday_status c weekday = unwrap_or (slice_index_or c.weekdays weekday None) Work

-- a listed date goes before its weekday
unfoldable pub status_of_day : CalendarEntries → ℕ → DayStatus
status_of_day c d = unwrap_or (map.get c.dates d) (weekday_status c (weekday_of_day d))

-- the weekday of the day is one of work days
abbrev pub is_work_weekday : CalendarEntries → ℕ → Bool
is_work_weekday c d = is_work_status (weekday_status c (weekday_of_day d))

-- the test of a calendar: whether the day is a work day of the range
unfoldable pub is_work_day : CalendarEntries → ℕ → Bool
is_work_day c d = is_day d && is_work_status (status_of_day c d)

-- nothing is listed
abbrev pub no_entries : CalendarEntries
no_entries =
    record { weekdays = None ∷ None ∷ None ∷ None ∷ None ∷ None ∷ None ∷ []; dates = map.empty }

-- the entries, with that status for the weekday, Monday 0
abbrev pub with_weekday : CalendarEntries → ℕ → DayStatus → CalendarEntries
with_weekday c weekday status =
    record c { weekdays = slice_set c.weekdays weekday (Some status) }

-- the entries, with that status for the date
abbrev pub with_date : CalendarEntries → ℕ → DayStatus → CalendarEntries
with_date c day status = record c { dates = map.insert c.dates day status }

-- the entries without those for dates
abbrev pub without_dates : CalendarEntries → CalendarEntries
without_dates c = record c { dates = map.empty }
