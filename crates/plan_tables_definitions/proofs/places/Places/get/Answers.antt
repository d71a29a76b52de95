use Rattle.std.proofs.Common.{◌∙◌}
use Rattle.work_calendars.proofs.CalendarFacts.{lookup-listed}
use Rattle.plan_tables_definitions.proofs.places.Places.get.Goals as goal

pub returns : goal.returns
returns g c = rw (← c.self.view_is) (c.copied.ensures ∙ c.get.ensures.value
    ∙ lookup-listed c.args.place c.self.inside.by_place.entries)
