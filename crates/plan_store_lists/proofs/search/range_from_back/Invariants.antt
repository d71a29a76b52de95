use Rattle.std.proofs.Common.{◌<◌, length}
use Rattle.plan_store_lists.proofs.search.range_from_back.Given as goal

abbrev pub invariant-loop-start : goal.invariant-loop-start
invariant-loop-start g l = l.start < length l.list

abbrev pub decreases-loop-start : goal.decreases-loop-start
decreases-loop-start g l = l.start
