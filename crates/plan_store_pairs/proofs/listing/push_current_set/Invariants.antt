use Rattle.std.proofs.Common.{take}
use Rattle.plan_store_lists.specs.Blocks.{items_in}
use Rattle.plan_store_pairs.specs.LiveRows.{AddsCurrent}
use Rattle.plan_store_pairs.proofs.listing.push_current_set.Given as goal

abbrev pub invariant-loop-block : goal.invariant-loop-block
invariant-loop-block l = AddsCurrent (items_in (take l.block-index l.blocks)) l.initial.rows.items l.rows.items
