use Rattle.work_calendars.proofs.CalendarFacts.{listed_after_insert}
use Rattle.work_calendars.proofs.calendars.Calendar.set_date.Goals as goal

pub returns-clause-ok : goal.returns-clause-ok
returns-clause-ok c =
    rw (← c.self.view_is) (λ i. record {
      weekdays = c.self.inside.weekdays;
      dates = listed_after_insert c.self.inside.dates.entries
          c.insert.new.self.entries c.args.day c.args.status c.in_ok-insert.ensures.updates.0 i;
    })
