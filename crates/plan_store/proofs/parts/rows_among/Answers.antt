use Rattle.std.proofs.Common.{◌++◌, ◌∙◌, List, filter, ap, arith, nat_eq, refl}
use Rattle.std.specs.List.{list_any}
use Rattle.std.proofs.lemmas.List.{take_all}
use Rattle.occurrences.specs.declared.row.Row.{Row}
use Rattle.plan_store_lists.specs.Blocks.{items_in}
use Rattle.plan_store.proofs.SliceLemmas.{filter_block}
use Rattle.plan_store.proofs.parts.rows_among.Goals as goal

pub loop-block-preserved : goal.loop-block-preserved
loop-block-preserved c =
    let all = c.blocks-all.result.now in
    let block = c.block-item.result in
    let index = c.loop-block.block-index in
    let test = λ (row : Row). list_any (λ n. nat_eq n row.serial) c.args.serials.now in
    filter_block test all index block (filter test block.items.items) c.loop-block.found.items
    c.push_among.new.found.items c.loop-block-test.true c.block-item.is refl c.loop-block.invariant
    (c.in_ok-push_among.ensures
    ∙ ap (λ (rows : List Row). c.loop-block.found.items ++ filter test rows) c.items.ensures)

-- all blocks
pub returns : goal.returns
returns c =
    let all = c.blocks-all.result.now in
    let test = λ (row : Row). list_any (λ n. nat_eq n row.serial) c.args.serials.now in
    c.loop-block.invariant ∙ ap (λ bs. filter test (items_in bs)) (take_all c.loop-block.block-index all (omega arith))
    ∙ ap (filter test) c.blocks-all.ensures.all
