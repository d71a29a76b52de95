use Rattle.std.proofs.Common.{take}
use Rattle.plan_store_pairs.specs.Gathering.{AddsEach, IsReachedAmong}
use Rattle.plan_store_pairs.proofs.gathering.push_reached.Given as goal

-- those of the rows so far
abbrev pub invariant-loop-placed : goal.invariant-loop-placed
invariant-loop-placed l =
    AddsEach (IsReachedAmong l.row l.link.within) (take l.placed-index l.rows) l.initial.found.items l.found.items
