use Rattle.std.proofs.Common.{◌≡◌, ◌<◌, ◌∙◌, length, get_or, filter, ap, arith, sym, subst}
use Rattle.std.specs.Prelude.{not}
use Rattle.std.proofs.lemmas.List.{take_all}
use Rattle.occurrences.specs.declared.place.Deletion.{Deletion}
use Rattle.planner_machine.specs.DailyPlan.{arrives_before}
use Rattle.plan_store_lists.specs.Blocks.{items_in}
use Rattle.plan_store_lists.specs.Rows.{of_deletion}
use Rattle.plan_store.specs.Views.{bars_from, is_by_operator}
use Rattle.plan_store.proofs.SliceLemmas.{filter_block, filter_twice, one_in_block}
use Rattle.plan_store.proofs.slices.barring.Goals as goal

pub loop-block-preserved : goal.loop-block-preserved
loop-block-preserved c =
    let all = c.blocks-all.result.now in
    let block = c.block-item.result in
    let index = c.loop-block.block-index in
    let lt : index < length all = c.loop-block-test.true in
    let at : block ≡ get_or all index block = c.block-item.is in
    let rows : c.items.result.now ≡ block.items.items = c.items.ensures in
    let by_operator = λ (x : Deletion). is_by_operator x.reason in
    let from = c.from_on.ensures.value
    (rw rows (c.blocks-all.ensures.keyed block (index, lt, sym at)))
    (rw rows (one_in_block of_deletion block (λ x there. c.blocks-all.ensures.one block x (index, lt, sym at) there))) in
    let late : c.from_on.result.now
    ≡ filter (λ (x : Deletion). not (arrives_before c.args.moment x.row)) block.items.items =
    subst (λ m. c.from_on.result.now ≡ filter (λ (x : Deletion). not (arrives_before m x.row)) block.items.items)
    c.number.ensures.value (rw rows at from) in
    filter_block (bars_from c.args.moment) all index block (filter by_operator c.from_on.result.now)
    c.loop-block.found.items c.push_operators.new.found.items lt at
    (ap (filter by_operator) late
    ∙ filter_twice (λ (x : Deletion). not (arrives_before c.args.moment x.row)) by_operator block.items.items)
    c.loop-block.invariant c.in_ok-push_operators.ensures

-- all blocks
pub returns : goal.returns
returns c =
    let all = c.blocks-all.result.now in
    c.loop-block.invariant
    ∙ ap (λ bs. filter (bars_from c.args.moment) (items_in bs)) (take_all c.loop-block.block-index all (omega arith))
    ∙ ap (filter (bars_from c.args.moment)) c.blocks-all.ensures.all
