-- The tables of an index, as far as they are filled.
use Rattle.std.proofs.Common.{◌≡◌, ℕ, ◌+◌, ◌-◌, ◌<◌, Bool, false, List, length, slice_index, None}
use Rattle.std.specs.List.{slice_index_or}
use Rattle.std.specs.Map.{lookup}
use Rattle.std.specs.BTreeMap.{is_at}
use Rattle.std.specs.Ordering.{nat_cmp}
use Rattle.work_calendars.specs.Calendar.{CalendarEntries, is_work_day}
use Rattle.work_calendars.specs.Day.{IsDay, first_day, last_day}
use Rattle.work_calendars.specs.WorkDay.{work_days_before, IsNthWorkDay}
use Rattle.work_calendars.specs.declared.statuses.DayStatus.{DayStatus}

-- how many work days come before each day up to `end`, and the work days before it
pub record CountsUpTo (work : ℕ → Bool) (end : ℕ) (ranks days : List ℕ) : Type 0 where
  pub ranks_len : first_day + length ranks ≡ end
  pub ranks_are : (i : ℕ) → i < length ranks → slice_index ranks i ≡ work_days_before work (first_day + i)
  pub days_len : length days ≡ work_days_before work end
  pub days_are : (k : ℕ) → k < length days → IsNthWorkDay work k (slice_index days k)

-- the statuses of the days before `end`
pub record StatusesUpTo (work : ℕ → Bool) (end : ℕ) (statuses : List Bool) : Type 0 where
  pub len : first_day + length statuses ≡ end
  pub are : (i : ℕ) → i < length statuses → slice_index_or statuses i false ≡ work (first_day + i)

-- the statuses of all days but those of the listed dates that are left
pub record StatusesBut (c : CalendarEntries) (left : List (ℕ × DayStatus)) (statuses : List Bool) : Type 0 where
  pub len : first_day + length statuses ≡ last_day + 1
  pub are : (d : ℕ) → IsDay d → lookup (is_at (nat_cmp d)) left ≡ None
      → slice_index_or statuses (d - first_day) false ≡ is_work_day c d
