use Rattle.std.proofs.Common.{◌+◌, ◌++◌, ◌∙◌, List, subst, sym, take}
use Rattle.std.specs.List.{Contains}
use Rattle.occurrences.specs.declared.row.Row.{Row}
use Rattle.plan_store_lists.specs.Blocks.{items_in}
use Rattle.plan_store_lists.proofs.RunLemmas.{items_more}
use Rattle.plan_store_pairs.specs.Later.{AreLater}
use Rattle.plan_store_pairs.proofs.LaterLemmas.{later_both}
use Rattle.plan_store_pairs.proofs.later.later_rows.Goals as goal

pub tail_of-requires-clause-one : goal.tail_of-requires-clause-one
tail_of-requires-clause-one c x y at_x at_y =
    let block = c.block-item.result in
    let among : Contains c.blocks-blocks.result.now block =
    (c.loop-block.block-index, c.loop-block-test.true, sym c.block-item.is) in
    c.blocks-blocks.ensures.one block x among (subst (λ (l : List Row). Contains l x) c.items.ensures at_x)
    ∙ sym (c.blocks-blocks.ensures.one block y among (subst (λ (l : List Row). Contains l y) c.items.ensures at_y))

-- one more block
pub loop-block-preserved : goal.loop-block-preserved
loop-block-preserved c =
    let blocks = c.blocks-blocks.result.now in
    let block = c.block-item.result in
    let index = c.loop-block.block-index in
    let moment = c.args.moment in
    let old = c.loop-block.later.items in
    let tail = c.tail_of.result.now in
    let own : AreLater block.items.items moment tail = subst (λ (l : List Row). AreLater l moment tail) c.items.ensures
    c.tail_of.ensures in
    subst (λ (l : List Row). AreLater (items_in (take (index + 1) blocks)) moment l)
    (sym c.in_ok-extend_from_slice.ensures.items)
    (subst (λ (l : List Row). AreLater l moment (old ++ tail))
    (sym (items_more blocks index block c.loop-block-test.true c.block-item.is))
    (later_both (items_in (take index blocks)) block.items.items old tail moment c.loop-block.invariant own))
