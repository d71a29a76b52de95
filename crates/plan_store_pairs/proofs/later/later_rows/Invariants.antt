use Rattle.std.proofs.Common.{take}
use Rattle.plan_store_lists.specs.Blocks.{items_in}
use Rattle.plan_store_pairs.specs.Later.{AreLater}
use Rattle.plan_store_pairs.proofs.later.later_rows.Given as goal

-- those of the blocks so far
abbrev pub invariant-loop-block : goal.invariant-loop-block
invariant-loop-block l = AreLater (items_in (take l.block-index l.blocks)) l.moment l.later.items
