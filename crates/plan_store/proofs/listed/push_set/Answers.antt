use Rattle.std.proofs.Common.{◌++◌, ◌∙◌, ap, arith, map}
use Rattle.std.proofs.lemmas.List.{take_all}
use Rattle.plan_store_lists.specs.Blocks.{items_in}
use Rattle.plan_store.proofs.ListedLemmas.{block_more_given}
use Rattle.plan_store.proofs.listed.push_set.Goals as goal

pub loop-block-preserved : goal.loop-block-preserved
loop-block-preserved g c =
    block_more_given g.T.PlanRow.row_of (map (λ row. row.now) c.args.all.now.items) c.blocks-blocks.result.now
    c.loop-block.block-index c.block-item.result (map (λ row. row.now) c.loop-block.all.items)
    (map (λ row. row.now) c.push_occurrences.new.all.items) c.items.result.now c.loop-block-test.true c.block-item.is
    c.items.ensures c.loop-block.invariant c.in_ok-push_occurrences.ensures

-- all blocks
pub returns : goal.returns
returns g c =
    let blocks = c.blocks-blocks.result.now in
    let row_of = g.T.PlanRow.row_of in
    c.loop-block.invariant
    ∙ ap (λ bs. map (λ row. row.now) c.args.all.now.items ++ map row_of (items_in bs))
    (take_all c.loop-block.block-index blocks (omega arith))
    ∙ ap (λ l. map (λ row. row.now) c.args.all.now.items ++ map row_of l) c.blocks-blocks.ensures.all
