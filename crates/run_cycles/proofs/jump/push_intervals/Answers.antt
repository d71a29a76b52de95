use Rattle.std.proofs.Common.{◌≡◌, ◌+◌, ◌*◌, ◌∷◌, Bool, List, Some, length, sym, subst, ◌∙◌}
use Rattle.std.specs.Prelude.{Contains}
use Rattle.plan_periods.specs.declared.intervals.Interval.{Interval}
use Rattle.plan_periods.specs.declared.periods.Period.{Period}
use Rattle.plan_periods.specs.Walk.{CountsVisits}
use Rattle.work_calendars.specs.WorkIndex.{is_work_in}
use Rattle.run_cycles.specs.Searches.{AddsDays, GivesIn, GivesInMet, IsInWindow}
use Rattle.run_cycles.proofs.AddLemmas.{adds_same, asks_both}
use Rattle.run_cycles.proofs.GatherLemmas.{AnyIn, Given, contains_first, contains_later, gathering_ends}
use Rattle.run_cycles.proofs.GatherLemmas.{gathering_goes_on, more_visits, visits_some, walk_gives}
use Rattle.run_cycles.proofs.jump.push_intervals.Goals as goal

pub loop-interval-preserved : goal.loop-interval-preserved
loop-interval-preserved c =
    let inv = c.loop-interval.invariant in
    let on = c.in-Some.ensures.goes_on in
    let x = c.in-Some.interval in
    let after = c.next_met.new.intervals.left in
    let step : c.loop-interval.intervals.left ≡ x ∷ after = c.in-Some.ensures.step in
    let low = c.args.window.now.low in
    let high = c.args.window.now.high in
    let offsets = c.args.offsets.now in
    let m = 2 * length offsets + 2 in
    let same : c.loop-interval.index.statuses ≡ c.args.index.now.statuses = inv.5.0 in
    let Adds : List Bool → Type 0 = λ s. AddsDays (IsInWindow low high
    (GivesIn c.args.rule (is_work_in s) x.first x.last) offsets)
    c.loop-interval.days.items c.push_interval.new.days.items in
    let here : Contains c.loop-interval.intervals.left x = subst
    (λ (l : List Interval). Contains l x) (sym step) (contains_first x after) in
    let counts : CountsVisits c.args.period.now (Some x) c.loop-interval.intervals.visited
    c.next_met.new.intervals.visited
    = subst (λ (p : Period). CountsVisits p (Some x) c.loop-interval.intervals.visited c.next_met.new.intervals.visited)
    (inv.0 ∙ c.new-intervals.ensures.period) on.visits in (
      on.period ∙ inv.0,
      on.from ∙ inv.1,
      on.to ∙ inv.2,
      λ y h. inv.3 y (subst (λ (l : List Interval). Contains l y) (sym step) (contains_later x after y h)),
      gathering_goes_on (Given low high c.args.rule (is_work_in c.args.index.now.statuses) offsets)
          c.args.days.now.items c.new-intervals.result.left c.loop-interval.days.items c.push_interval.new.days.items
          c.loop-interval.intervals.left after x step (subst Adds same c.in_ok-push_interval.ensures.days) inv.4,
      asks_both (c.loop-interval.intervals.visited * m) m (c.next_met.new.intervals.visited * m)
          c.args.index.now c.loop-interval.index c.push_interval.new.index
          (more_visits c.loop-interval.intervals.visited c.next_met.new.intervals.visited m
          (visits_some c.args.period.now x c.loop-interval.intervals.visited c.next_met.new.intervals.visited
          (inv.3 x here) counts))
          inv.5 c.in_ok-push_interval.ensures.asked,
    )

pub returns-clause-days : goal.returns-clause-days
returns-clause-days c =
    let low = c.args.window.now.low in
    let high = c.args.window.now.high in
    let offsets = c.args.offsets.now in
    let work = is_work_in c.args.index.now.statuses in
    adds_same (λ d. AnyIn (Given low high c.args.rule work offsets d) c.new-intervals.result.left)
    (IsInWindow low high (GivesInMet c.args.period.now c.args.rule work c.args.low c.args.high) offsets)
    c.args.days.now.items c.loop-interval.days.items
    (walk_gives c.args.period.now c.args.low c.args.high low
    high c.args.rule work offsets c.new-intervals.result.left c.new-intervals.ensures.left)
    (gathering_ends (Given low high c.args.rule work offsets)
    c.args.days.now.items c.new-intervals.result.left c.loop-interval.days.items
    c.loop-interval.intervals.left c.in_default.ensures.step c.loop-interval.invariant.4)
