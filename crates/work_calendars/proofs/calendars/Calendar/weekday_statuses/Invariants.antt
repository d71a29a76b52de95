use Rattle.std.proofs.Common.{◌+◌, ◌*◌}
use Rattle.work_calendars.specs.Calendar.{is_work_weekday}
use Rattle.work_calendars.specs.Day.{first_day}
use Rattle.work_calendars.proofs.Tables.{StatusesUpTo}
use Rattle.work_calendars.proofs.calendars.Calendar.weekday_statuses.Given as goal

abbrev pub invariant-weeks : goal.invariant-weeks
invariant-weeks l = StatusesUpTo (is_work_weekday l.self) (first_day + 7 * l._week) l.statuses.items
