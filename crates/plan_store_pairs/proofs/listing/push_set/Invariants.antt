use Rattle.std.proofs.Common.{take}
use Rattle.plan_store_lists.specs.Blocks.{items_in}
use Rattle.plan_store_pairs.specs.LiveRows.{AddsRows}
use Rattle.plan_store_pairs.proofs.listing.push_set.Given as goal

abbrev pub invariant-loop-block : goal.invariant-loop-block
invariant-loop-block l = AddsRows (items_in (take l.block-index l.blocks)) l.place l.initial.rows.items l.rows.items
