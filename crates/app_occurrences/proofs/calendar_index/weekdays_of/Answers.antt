use Rattle.std.proofs.Common.{None}
use Rattle.app_occurrences.proofs.CalendarIndexLemmas.{seven}
use Rattle.app_occurrences.proofs.calendar_index.weekdays_of.Goals as goal

pub returns : goal.returns
returns c long = rw (
  c.weekday_status.ensures,
  c.weekday_status-2.ensures,
  c.weekday_status-3.ensures,
  c.weekday_status-4.ensures,
  c.weekday_status-5.ensures,
  c.weekday_status-6.ensures,
  c.weekday_status-7.ensures,
) (seven None c.args.calendar.now.weekdays long)
