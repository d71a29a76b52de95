use Rattle.std.proofs.Common.{ap, subst, sym, ◌∙◌}
use Rattle.std.specs.FinMap as map
use Rattle.std.specs.Ordering.{nat_cmp}
use Rattle.work_calendars.proofs.CalendarFacts.{listed_after_insert}
use Rattle.plan_tables_definitions.specs.Placed.{EndsAt}
use Rattle.plan_tables_definitions.proofs.PlaceLemmas.{ends_later}
use Rattle.plan_tables_definitions.proofs.places.Places.put.Goals as goal

pub returns : goal.returns
returns g c = listed_after_insert c.self.inside.by_place.entries c.insert.new.self.entries c.args.place c.args.x
    c.in_ok-_replaced.ensures.updates.0
    ∙ ap (λ m. map.insert m c.args.place c.args.x) c.self.view_is

pub invariant_of-self-2 : goal.invariant_of-self-2
invariant_of-self-2 g c = subst (λ m. EndsAt m c.end_with-self-inside.result)
    (sym (listed_after_insert c.self.inside.by_place.entries c.insert.new.self.entries c.args.place c.args.x
    c.in_ok-_replaced.ensures.updates.0))
    (ends_later (map.from_entries {R = nat_cmp} c.self.inside.by_place.entries) c.self.inside.end c.args.place
    c.end_with-self-inside.result c.args.x c.self.invariant c.end_with-self-inside.ensures)
