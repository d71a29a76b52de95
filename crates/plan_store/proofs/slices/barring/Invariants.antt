use Rattle.std.proofs.Common.{◌≡◌, take, filter}
use Rattle.plan_store_lists.specs.Blocks.{items_in}
use Rattle.plan_store.specs.Views.{bars_from}
use Rattle.plan_store.proofs.slices.barring.Given as goal

-- those of the blocks so far
abbrev pub invariant-loop-block : goal.invariant-loop-block
invariant-loop-block l = l.found.items ≡ filter (bars_from l.moment) (items_in (take l.block-index l.all))
