use Rattle.std.proofs.Common.{◌<◌, ◌++◌, ◌∙◌, length, sym, rules}
use Rattle.plan_store_lists.proofs.RunLemmas.{items_more}
use Rattle.plan_store_lists.proofs.blocks.all_of.Goals as goal

pub loop-block-preserved : goal.loop-block-preserved
loop-block-preserved g c =
    let block = c.block-item.result in
    let blocks = c.args.list.now.blocks.items in
    let lt : c.loop-block.block-index < length blocks = search rules in
    c.in_ok-extend_from_slice.ensures.items
    ∙ (λ i. c.loop-block.invariant i ++ c.deref.ensures.value i)
    ∙ sym (items_more blocks c.loop-block.block-index block lt (search rules))
