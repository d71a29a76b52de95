use Rattle.work_calendars.proofs.CalendarFacts.{is_day-in_range}
use Rattle.work_calendars.specs.Calendar.{is_work_day, status_of_day}
use Rattle.work_calendars.proofs.calendars.Calendar.is_work.Goals as goal

pub returns : goal.returns
unfolding is_work_day status_of_day
returns c =
    rw (
      is_day-in_range _ c.weekday.ensures.in_range,
      c.is_work.ensures,
      c.unwrap_or.ensures,
      c.date_status.ensures,
      c.unwrap_or-of_weekday.ensures,
      c.weekday.ensures.value,
      ← c.self.view_is,
    )
