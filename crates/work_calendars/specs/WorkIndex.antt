-- What contracts see of an index of work days: the status of each day of the range, from the first day on.
use Rattle.std.specs.Prelude.{◌≡◌, ℕ, ◌+◌, ◌-◌, ◌<◌, Bool, false, ◌&&◌, List, length, slice_index}
use Rattle.std.specs.List.{slice_index_or}
use Rattle.work_calendars.specs.Day.{IsDay, first_day, last_day, is_day}
use Rattle.work_calendars.specs.WorkDay.{work_days_before, IsNthWorkDay}

-- the test of an index: whether the day is a work day of the range
unfoldable pub is_work_in : List Bool → ℕ → Bool
is_work_in statuses d = is_day d && slice_index_or statuses (d - first_day) false

-- the statuses say of each day of the range whether it is a work day by that test
pub record AreStatuses (work : ℕ → Bool) (statuses : List Bool) : Type 0 where
  pub len : first_day + length statuses ≡ last_day + 1
  pub are : (d : ℕ) → IsDay d → slice_index_or statuses (d - first_day) false ≡ work d

-- the tables of all days: their statuses, how many work days come before each, and the work days
pub record IsIndex (statuses : List Bool) (ranks days : List ℕ) : Type 0 where
  pub statuses_len : first_day + length statuses ≡ last_day + 1
  pub ranks_len : length ranks ≡ length statuses + 1
  pub ranks_are : (i : ℕ) → i < length ranks
      → slice_index ranks i ≡ work_days_before (is_work_in statuses) (first_day + i)
  pub days_len : length days ≡ work_days_before (is_work_in statuses) (last_day + 1)
  pub days_are : (k : ℕ) → k < length days → IsNthWorkDay (is_work_in statuses) k (slice_index days k)
