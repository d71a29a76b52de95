use Rattle.std.proofs.Common.{◌++◌, ◌∙◌, ap, arith, map}
use Rattle.std.proofs.lemmas.List.{take_all}
use Rattle.plan_store_lists.specs.Blocks.{items_in}
use Rattle.plan_store.proofs.ListedLemmas.{block_more}
use Rattle.plan_store.proofs.listed.push_blocks.Goals as goal

pub loop-block-preserved : goal.loop-block-preserved
loop-block-preserved g c =
    block_more (map (λ x. x.now) c.args.found.now.items) c.blocks-all.result.now c.loop-block.block-index
    c.block-item.result (map (λ x. x.now) c.loop-block.found.items) (map (λ x. x.now) c.push_rows.new.found.items)
    c.items.result.now c.loop-block-test.true c.block-item.is c.items.ensures c.loop-block.invariant
    c.in_ok-push_rows.ensures

-- all blocks
pub returns : goal.returns
returns g c =
    let all = c.blocks-all.result.now in
    c.loop-block.invariant
    ∙ ap (λ bs. map (λ x. x.now) c.args.found.now.items ++ items_in bs)
    (take_all c.loop-block.block-index all (omega arith))
    ∙ ap (λ l. map (λ x. x.now) c.args.found.now.items ++ l) c.blocks-all.ensures.all
