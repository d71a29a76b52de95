use Rattle.std.proofs.Common.{◌≡◌, ℕ, ℤ, Bool, List, ap, sym, subst, ◌∙◌}
use Rattle.work_calendars.specs.WorkIndex.{is_work_in}
use Rattle.plan_periods.specs.declared.periods.Period.TheVariants.{Work}
use Rattle.run_cycles.specs.CountedDay.{IsCountedDay}
use Rattle.run_cycles.specs.Searches.{AddsDays, GivesInMet, IsInWindow, IsWithin, KeepsWithin, reach_of}
use Rattle.run_cycles.specs.Offset.{Offset}
use Rattle.run_cycles.proofs.ReachLemmas.{counted_within, met_within, window_within}
use Rattle.run_cycles.proofs.NamedLemmas.{lists_named, met_gives, not_work, walks, work_gives, work_walks}
use Rattle.run_cycles.proofs.jump.JumpDays.new.Goals as goal

pub returns-in-Work-clause-lists : goal.returns-in-Work-clause-lists
returns-in-Work-clause-lists c =
    let work = is_work_in c.args.index.statuses in
    let o = c.in-Work.origin in
    let n = c.in-Work.interval in
    let P : Offset → ℕ → Type 0 = λ k d. IsCountedDay (Work o n) k work d in
    let low = c.window_of-window.result.low in
    let high = c.window_of-window.result.high in
    let reach : c.reach.result ≡ n = c.reach.ensures ∙ ap reach_of c.in-Work.is in
    let all = window_within c.reach.result low high P c.as_slice.result.now c.as_slice-offsets.result.now
    c.new-days.result.items c.push_work_intervals.new.days.items (c.as_slice.ensures.valid.2)
    (let K : List ℤ → Type 0 = λ ks. KeepsWithin c.reach.result c.as_slice.result.now ks in
    subst K (sym c.as_slice-offsets.ensures.value) c.in_ok-useful.ensures.kept)
    (λ k d in' h. let Q : ℕ → Type 0 = λ m. IsWithin m k in subst Q (sym reach) (counted_within o n k work d h))
    c.in_ok-push_work_intervals-in-Work.ensures.days in
    lists_named c.args.cycle.now c.args.period.now work c.args.from c.args.to low high P c.as_slice.result.now
    c.new-days.result.items c.push_work_intervals.new.days.items
    c.sorted.result.left c.as_slice.ensures.value c.new-days.ensures.items c.window_of-window.ensures.days
    (λ k d f t. work_gives c.args.period.now o n c.in-Work.is c.args.cycle.now.rule work k d)
    all c.sorted.ensures.exactly c.sorted.ensures.rising

pub returns-in-Work-clause-visited : goal.returns-in-Work-clause-visited
returns-in-Work-clause-visited c =
    work_walks c.args.period.now c.in-Work.origin c.in-Work.interval c.in-Work.is c.args.cycle.now.rule
    (is_work_in c.args.index.statuses) c.args.from c.args.to c.sorted.result.visited c.sorted.ensures.visited

pub returns-clause-lists : goal.returns-clause-lists
returns-clause-lists c =
    let work = is_work_in c.args.index.statuses in
    let l = c.raw_range-low.result.0 in
    let h = c.raw_range-low.result.1 in
    let low = c.window_of-window.result.low in
    let high = c.window_of-window.result.high in
    let offsets = c.as_slice-offsets.result.now in
    let Adds : List Bool → Type 0 = λ s. AddsDays (IsInWindow low high
    (GivesInMet c.args.period.now c.args.cycle.now.rule (is_work_in s) l h) offsets)
    c.new-days.result.items c.push_intervals.new.days.items in
    let P : Offset → ℕ → Type 0 = GivesInMet c.args.period.now c.args.cycle.now.rule work l h in
    let all = window_within c.reach.result low high P c.as_slice.result.now offsets
    c.new-days.result.items c.push_intervals.new.days.items (c.as_slice.ensures.valid.2)
    (let K : List ℤ → Type 0 = λ ks. KeepsWithin c.reach.result c.as_slice.result.now ks in
    subst K (sym c.as_slice-offsets.ensures.value) c.in_ok-useful.ensures.kept)
    (λ k d in' given. let Q : ℕ → Type 0 = λ m. IsWithin m k in
    subst Q (sym c.reach.ensures) (met_within c.args.period.now
    c.requires c.args.cycle.now.rule work l h k d in' given))
    (subst Adds c.raw_range-low.ensures.asked.0 c.in_ok-visited-in-All.ensures.days) in
    lists_named c.args.cycle.now c.args.period.now work c.args.from c.args.to low high P c.as_slice.result.now
    c.new-days.result.items c.push_intervals.new.days.items c.sorted-in-All.result.left
    c.as_slice.ensures.value c.new-days.ensures.items c.window_of-window.ensures.days
    (met_gives c.args.period.now work c.args.from c.args.to l h
    (not_work c.args.period.now c.in-All.is) c.args.cycle.now.rule c.raw_range-low.ensures.range)
    all c.sorted-in-All.ensures.exactly c.sorted-in-All.ensures.rising

pub returns-clause-visited : goal.returns-clause-visited
returns-clause-visited c =
    let l = c.raw_range-low.result.0 in
    let h = c.raw_range-low.result.1 in
    walks c.args.period.now (is_work_in c.args.index.statuses) c.args.from c.args.to l h
    (not_work c.args.period.now c.in-All.is) c.args.cycle.now.rule
    c.sorted-in-All.result.visited c.raw_range-low.ensures.range
    (rw c.sorted-in-All.ensures.visited c.in_ok-visited-in-All.ensures.visited)
