use Rattle.std.proofs.Common.{◌-◌, ◌≤◌, length}
use Rattle.plan_store_lists.proofs.search.range_from_front.Given as goal

abbrev pub invariant-loop-end : goal.invariant-loop-end
invariant-loop-end g l = (1 ≤ l.end) × (l.end ≤ length l.list)

abbrev pub decreases-loop-end : goal.decreases-loop-end
decreases-loop-end g l = length l.list - l.end
