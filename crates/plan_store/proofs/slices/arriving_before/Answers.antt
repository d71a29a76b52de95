use Rattle.std.proofs.Common.{◌≡◌, ◌<◌, ◌∙◌, length, get_or, filter, ap, arith, sym, subst}
use Rattle.std.proofs.lemmas.List.{take_all}
use Rattle.planner_machine.specs.DailyPlan.{arrives_before}
use Rattle.plan_store_lists.specs.Blocks.{items_in}
use Rattle.plan_store_lists.specs.Rows.{of_row}
use Rattle.plan_store.proofs.SliceLemmas.{filter_block, one_in_block}
use Rattle.plan_store.proofs.slices.arriving_before.Goals as goal

pub loop-block-preserved : goal.loop-block-preserved
loop-block-preserved c =
    let all = c.blocks-all.result.now in
    let block = c.block-item.result in
    let index = c.loop-block.block-index in
    let lt : index < length all = c.loop-block-test.true in
    let at : block ≡ get_or all index block = c.block-item.is in
    let rows : c.items.result.now ≡ block.items.items = c.items.ensures in
    let early = c.before-in-loop-block.ensures.value
    (rw rows (c.blocks-all.ensures.keyed block (index, lt, sym at)))
    (rw rows (one_in_block of_row block (λ x there. c.blocks-all.ensures.one block x (index, lt, sym at) there))) in
    filter_block (arrives_before c.args.moment) all index block c.before-in-loop-block.result.now c.loop-block.found.items
    c.extend_from_slice.new.self.items lt at
    (subst (λ m. c.before-in-loop-block.result.now ≡ filter (arrives_before m) block.items.items) c.number.ensures.value
    (rw rows at early)) c.loop-block.invariant c.in_ok-extend_from_slice.ensures.items

-- all blocks
pub returns : goal.returns
returns c =
    let all = c.blocks-all.result.now in
    c.loop-block.invariant
    ∙ ap (λ bs. filter (arrives_before c.args.moment) (items_in bs)) (take_all c.loop-block.block-index all (omega arith))
    ∙ ap (filter (arrives_before c.args.moment)) c.blocks-all.ensures.all
