use Rattle.std.proofs.Common.{◌≡◌, take}
use Rattle.plan_store_lists.specs.Blocks.{items_in}
use Rattle.plan_store_lists.proofs.blocks.all_of.Given as goal

-- the items of the blocks so far
abbrev pub invariant-loop-block : goal.invariant-loop-block
invariant-loop-block g l = l.found.items ≡ items_in (take l.block-index l.list.blocks.items)
