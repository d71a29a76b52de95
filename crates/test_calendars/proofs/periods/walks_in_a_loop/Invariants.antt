use Rattle.std.proofs.Common.{◌≤◌, length}
use Rattle.test_calendars.proofs.periods.walks_in_a_loop.Given as goal

abbrev pub invariant-loop-interval : goal.invariant-loop-interval
invariant-loop-interval g l = l.firsts ≤ 60

abbrev pub decreases-loop-interval : goal.decreases-loop-interval
decreases-loop-interval g l = length l.interval-iterator.left
