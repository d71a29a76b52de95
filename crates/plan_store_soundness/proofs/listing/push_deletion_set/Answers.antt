use Rattle.std.proofs.Common.{◌++◌, ◌∙◌, ap, arith}
use Rattle.std.specs.Prelude.{map}
use Rattle.std.proofs.lemmas.List.{take_all}
use Rattle.plan_store_lists.specs.Blocks.{items_in}
use Rattle.plan_store_soundness.specs.Listing.{deleted_place}
use Rattle.plan_store_soundness.proofs.ListingLemmas.{block_more}
use Rattle.plan_store_soundness.proofs.listing.push_deletion_set.Goals as goal

pub loop-block-preserved : goal.loop-block-preserved
loop-block-preserved c =
    block_more deleted_place c.args.all.now.items c.blocks-blocks.result.now c.loop-block.block-index c.block-item.result
    c.loop-block.all.items c.push_deletions.new.all.items c.items.result.now c.loop-block-test.true c.block-item.is
    c.items.ensures c.loop-block.invariant c.in_ok-push_deletions.ensures

-- all blocks
pub returns : goal.returns
returns c =
    let blocks = c.blocks-blocks.result.now in
    c.loop-block.invariant
    ∙ ap (λ bs. c.args.all.now.items ++ map deleted_place (items_in bs))
    (take_all c.loop-block.block-index blocks (omega arith))
    ∙ ap (λ l. c.args.all.now.items ++ map deleted_place l) c.blocks-blocks.ensures.all
