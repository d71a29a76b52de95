use Rattle.work_calendars.specs.Calendar.{is_work_day}
use Rattle.work_calendars.proofs.Tables.{CountsUpTo}
use Rattle.work_calendars.proofs.work_index.WorkIndex.build.Given as goal

abbrev pub invariant-loop-number : goal.invariant-loop-number
invariant-loop-number l = CountsUpTo (is_work_day l.calendar) l.number l.ranks.items l.days.items
