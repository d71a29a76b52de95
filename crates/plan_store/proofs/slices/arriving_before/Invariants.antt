use Rattle.std.proofs.Common.{◌≡◌, take, filter}
use Rattle.planner_machine.specs.DailyPlan.{arrives_before}
use Rattle.plan_store_lists.specs.Blocks.{items_in}
use Rattle.plan_store.proofs.slices.arriving_before.Given as goal

-- those of the blocks so far
abbrev pub invariant-loop-block : goal.invariant-loop-block
invariant-loop-block l = l.found.items ≡ filter (arrives_before l.moment) (items_in (take l.block-index l.all))
