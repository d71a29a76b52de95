use Rattle.std.proofs.Common.{◌≡◌, ◌+◌, length, take}
use Rattle.plan_store_lists.specs.Blocks.{items_in}
use Rattle.plan_store_lists.proofs.blocks.Blocks.has_more_than.Given as goal

-- the items of the blocks so far are taken off
abbrev pub invariant-loop-block : goal.invariant-loop-block
invariant-loop-block g l = length (items_in (take l.block-index l.self.blocks.items)) + l.left ≡ l.most
