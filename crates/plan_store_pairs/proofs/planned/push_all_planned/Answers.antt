use Rattle.std.proofs.Common.{◌∙◌, ◌++◌, [], ap, arith, subst, sym, take}
use Rattle.std.specs.List.{Contains}
use Rattle.std.proofs.lemmas.List.{take_all}
use Rattle.plan_store.specs.Views.{shown}
use Rattle.plan_store_lists.specs.Blocks.{items_in}
use Rattle.plan_store_lists.proofs.BlockLemmas.{contains_items}
use Rattle.plan_store_lists.proofs.RunLemmas.{items_more}
use Rattle.plan_store_pairs.specs.Planned.{AddsPairsOf}
use Rattle.external_dependencies.specs.Touch.{HasRowOf}
use Rattle.plan_store_pairs.proofs.PlannedLemmas.{adds_both, adds_none, no_serial, serial_both}
use Rattle.plan_store_pairs.proofs.planned.push_all_planned.Goals as goal

pub loop-block-init : goal.loop-block-init
loop-block-init c = adds_none (shown c.args.view.now).pairs (HasRowOf []) c.args.pairs.now.items no_serial

pub push_planned-requires : goal.push_planned-requires
push_planned-requires c x there =
    let blocks = c.blocks-blocks.result.now in
    let block = c.block-item.result in
    let among = (contains_items blocks x).1 (
      block,
      (c.loop-block.block-index, c.loop-block-test.true, sym c.block-item.is),
      subst (λ xs. Contains xs x) c.items.ensures there,
    ) in
    c.requires x (subst (λ xs. Contains xs x) c.blocks-blocks.ensures.all among)

-- one more block
pub loop-block-preserved : goal.loop-block-preserved
loop-block-preserved c =
    let all = (shown c.args.view.now).pairs in
    let blocks = c.blocks-blocks.result.now in
    let block = c.block-item.result in
    let index = c.loop-block.block-index in
    let so_far = items_in (take index blocks) in
    let first = c.args.pairs.now.items in
    let now = c.loop-block.pairs.items in
    let new = c.push_planned.new.pairs.items in
    let own = subst (λ xs. AddsPairsOf all (HasRowOf xs) now new) c.items.ensures c.in_ok-push_planned.ensures in
    subst (λ xs. AddsPairsOf all (HasRowOf xs) first new)
    (sym (items_more blocks index block c.loop-block-test.true c.block-item.is))
    (adds_both all (HasRowOf so_far) (HasRowOf block.items.items) (HasRowOf (so_far ++ block.items.items))
    first now new c.loop-block.invariant own
    (serial_both so_far block.items.items))

-- all blocks
pub returns : goal.returns
returns c =
    let blocks = c.blocks-blocks.result.now in
    subst (λ xs. AddsPairsOf (shown c.args.view.now).pairs (HasRowOf xs) c.args.pairs.now.items c.loop-block.pairs.items)
    (ap (λ bs. items_in bs) (take_all c.loop-block.block-index blocks (omega arith)) ∙ c.blocks-blocks.ensures.all)
    c.loop-block.invariant
