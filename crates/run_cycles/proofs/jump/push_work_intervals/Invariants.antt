use Rattle.std.proofs.Common.{◌≡◌, ◌<◌}
use Rattle.work_calendars.specs.WorkIndex.{is_work_in}
use Rattle.run_cycles.specs.Searches.{AddsDays}
use Rattle.run_cycles.proofs.BlockLemmas.{InBlocks}
use Rattle.run_cycles.proofs.jump.push_work_intervals.Given as goal

abbrev pub invariant-loop-place : goal.invariant-loop-place
invariant-loop-place l =
    (l.index.statuses ≡ l.fn.index.statuses)
    × ((some : 0 < l.interval) → AddsDays (InBlocks (is_work_in l.fn.index.statuses)
    l.fn.origin l.interval some l.window.low l.window.high l.offsets l.first l.place)
    l.initial.days.items l.days.items)
