use Rattle.std.proofs.Common.{◌≡◌, ◌+◌, ◌*◌, length}
use Rattle.std.specs.Prelude.{Contains}
use Rattle.plan_periods.specs.declared.intervals.Interval.{Interval}
use Rattle.plan_periods.specs.Interval.{IsInterval}
use Rattle.work_calendars.specs.WorkIndex.{is_work_in}
use Rattle.run_cycles.specs.Searches.{AsksAtMost}
use Rattle.run_cycles.proofs.GatherLemmas.{Given, IsGathering}
use Rattle.run_cycles.proofs.jump.push_intervals.Given as goal

abbrev pub invariant-loop-interval : goal.invariant-loop-interval
invariant-loop-interval l =
    (l.intervals.period ≡ l.initial.intervals.period)
    × (l.intervals.from ≡ l.initial.intervals.from)
    × (l.intervals.to ≡ l.initial.intervals.to)
    × ((x : Interval) → Contains l.intervals.left x → IsInterval l.fn.period x.first x.last)
    × IsGathering (Given l.window.low l.window.high l.rule (is_work_in l.initial.index.statuses) l.offsets)
    l.initial.days.items l.initial.intervals.left l.days.items l.intervals.left
    × AsksAtMost (l.intervals.visited * (2 * length l.offsets + 2)) l.initial.index l.index

abbrev pub decreases-loop-interval : goal.decreases-loop-interval
decreases-loop-interval l = length l.intervals.left
