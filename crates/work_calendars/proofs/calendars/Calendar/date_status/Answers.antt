use Rattle.std.proofs.Common.{◌∙◌}
use Rattle.work_calendars.proofs.CalendarFacts.{lookup-listed}
use Rattle.work_calendars.proofs.calendars.Calendar.date_status.Goals as goal

pub returns : goal.returns
returns c =
    rw (← c.self.view_is) (c.copied.ensures ∙ c.get.ensures.value ∙
    lookup-listed c.args.day c.self.inside.dates.entries)
