use Rattle.std.proofs.Common.{◌≡◌, [], take}
use Rattle.plan_store_lists.specs.Blocks.{items_in}
use Rattle.plan_store_lists.proofs.blocks.Blocks.is_empty.Given as goal

-- the blocks so far have no items
abbrev pub invariant-loop-block : goal.invariant-loop-block
invariant-loop-block g l = items_in (take l.block-index l.self.blocks.items) ≡ []
