use Rattle.work_calendars.proofs.Tables.{StatusesBut}
use Rattle.work_calendars.proofs.calendars.Calendar.statuses.Given as goal

abbrev pub invariant-loop-day : goal.invariant-loop-day
invariant-loop-day l = StatusesBut l.fn.self l.day-iterator l.statuses.items
