-- Ranges of values, as tests read them.
use Rattle.std.specs.Prelude.{◌≡◌, ℕ, Some}
use Rattle.work_calendars.specs.Day.{IsDay}
use Rattle.work_calendars.specs.Moment.{IsMoment}
use Rattle.external_dependencies.specs.declared.rows.PlacedRow.{PlacedRow}
use Rattle.planner_machine.specs.Content.{Sets, IsOnlyAt}
use Rattle.planner_machine.specs.Sound.{IsRow}
use Rattle.planner_machine.specs.declared.content.Bounds.{Bounds}

-- days and a moment of the range
abbrev pub IsBoundsValue : Bounds → Type 0
IsBoundsValue b = IsDay b.first_day × IsDay b.last_day × IsMoment b.plan_end

abbrev pub HasBoundsInRange : Sets → Type 0
HasBoundsInRange s = (b : Bounds) → s.bounds ≡ Some b → IsBoundsValue b

-- all rows have the ranges and forms of rows
abbrev pub HaveRanges : Sets → Type 0
HaveRanges s = (serial : ℕ) (p : PlacedRow) → IsOnlyAt s serial p → IsRow p.row
