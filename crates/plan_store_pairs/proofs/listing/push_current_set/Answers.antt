use Rattle.std.proofs.Common.{◌∙◌, ap, arith, subst, sym, take}
use Rattle.std.proofs.lemmas.List.{take_all}
use Rattle.plan_store_lists.specs.Blocks.{items_in}
use Rattle.plan_store_lists.proofs.RunLemmas.{items_more}
use Rattle.plan_store_pairs.specs.LiveRows.{AddsCurrent}
use Rattle.plan_store_pairs.proofs.RowLemmas.{current_both}
use Rattle.plan_store_pairs.proofs.listing.push_current_set.Goals as goal

-- one more block
pub loop-block-preserved : goal.loop-block-preserved
loop-block-preserved c =
    let blocks = c.blocks-blocks.result.now in
    let block = c.block-item.result in
    let index = c.loop-block.block-index in
    let old = c.args.rows.now.items in
    let now = c.loop-block.rows.items in
    let new = c.push_current.new.rows.items in
    let own = subst (λ rs. AddsCurrent rs now new) c.items.ensures c.in_ok-push_current.ensures in
    subst (λ rs. AddsCurrent rs old new) (sym (items_more blocks index block c.loop-block-test.true c.block-item.is))
    (current_both (items_in (take index blocks)) block.items.items old now new c.loop-block.invariant own)

-- all blocks
pub returns : goal.returns
returns c =
    let blocks = c.blocks-blocks.result.now in
    subst (λ rs. AddsCurrent rs c.args.rows.now.items c.loop-block.rows.items)
    (ap (λ bs. items_in bs) (take_all c.loop-block.block-index blocks (omega arith)) ∙ c.blocks-blocks.ensures.all)
    c.loop-block.invariant
