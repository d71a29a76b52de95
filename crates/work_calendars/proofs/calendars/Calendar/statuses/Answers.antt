use Rattle.std.proofs.Common.{◌≡◌, ◌∙◌, sym, ap, subst, Some}
use Rattle.std.specs.Map.Iter.{deref_pair}
use Rattle.std.specs.Cmp.{nat_cmp_total}
use Rattle.std.specs.FinMap as map
use Rattle.std.proofs.lemmas.Map.Iter.{rest_more, btree_map_turn}
use Rattle.work_calendars.proofs.CalendarFacts.{lookup-listed}
use Rattle.work_calendars.proofs.Tables.{StatusesBut}
use Rattle.work_calendars.proofs.StatusFacts.{StatusesBut-start, StatusesBut-more}
use Rattle.work_calendars.proofs.calendars.Calendar.statuses.Goals as goal

pub loop-day-init : goal.loop-day-init
loop-day-init c =
    rw (c.into_iter-day-iterator.ensures.into_iter_gives, c.iter-day-items.ensures.rest)
    (StatusesBut-start _ c.self.inside.dates.entries _ (ap
    (λ v. v.dates) (sym c.self.view_is)) c.in_ok-statuses.ensures)

pub loop-day-preserved : goal.loop-day-preserved
loop-day-preserved c =
    let start = c.into_iter-day-iterator.ensures.into_iter_gives ∙ c.iter-day-items.ensures.rest in
    let turn = btree_map_turn deref_pair c.loop-day.yielded c.into_iter-day-iterator.result
    c.loop-day.day-iterator c.next.new.self c.next.result (
      c.in-Some.day,
      c.in-Some.status,
    ) c.loop-day.yielded_by c.in-Some.is
    c.next.ensures.steps nat_cmp_total c.self.inside.dates start c.iter-day-items.ensures.ordered in
    let listed : map.get c.args.self.now.dates c.in-Some.day.now ≡ Some c.in-Some.status.now
    = ap (λ v. map.get v.dates c.in-Some.day.now) (sym c.self.view_is) ∙
    sym (lookup-listed _ c.self.inside.dates.entries) ∙ turn.1 in
    let left = rest_more deref_pair c.loop-day.day-iterator c.next.new.self c.next.result (
      c.in-Some.day,
      c.in-Some.status,
    ) c.in-Some.is c.next.ensures.steps in
    StatusesBut-more _ _ _ _ _ _ _ (subst (λ l. StatusesBut c.args.self.now l c.loop-day.statuses.items)
    left c.loop-day.invariant) c.place.ensures.in_range c.place.ensures.value listed c.is_work.ensures
