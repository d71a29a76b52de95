use Rattle.std.proofs.Common.{◌∙◌, List, take, sym, ap, subst, arith}
use Rattle.std.proofs.lemmas.List.{take_all}
use Rattle.occurrences.specs.declared.place.CurrentRow.{CurrentRow}
use Rattle.plan_store_lists.specs.Blocks.{items_in}
use Rattle.plan_store_lists.proofs.RunLemmas.{items_more}
use Rattle.plan_store.specs.Queries.{AddsQueries, ReadByOne, ReadsRow}
use Rattle.plan_store.proofs.QueryLemmas.{asks_both}
use Rattle.plan_store.proofs.queries.add_all_waiting.Goals as goal

-- one more block
pub loop-block-preserved : goal.loop-block-preserved
loop-block-preserved c =
    let asks = ReadsRow c.args.in_force.now.items c.args.definitions.now in
    let all = c.blocks-all.result.now in
    let block = c.block-item.result in
    let index = c.loop-block.block-index in
    let first = c.args.queries.now.items in
    let old = c.loop-block.queries.items in
    let new = c.add_waiting.new.queries.items in
    let own = subst (λ (rows : List CurrentRow). AddsQueries (ReadByOne asks rows) old new) c.items.ensures
    c.in_ok-add_waiting.ensures in
    subst (λ (rows : List CurrentRow). AddsQueries (ReadByOne asks rows) first new)
    (sym (items_more all index block c.loop-block-test.true c.block-item.is))
    (asks_both asks (items_in (take index all)) block.items.items first old new c.loop-block.invariant own)

-- all blocks
pub returns : goal.returns
returns c =
    let all = c.blocks-all.result.now in
    subst (λ (rows : List CurrentRow). AddsQueries (ReadByOne (ReadsRow c.args.in_force.now.items c.args.definitions.now) rows)
    c.args.queries.now.items c.loop-block.queries.items)
    (ap (λ bs. items_in bs) (take_all c.loop-block.block-index all (omega arith)) ∙ c.blocks-all.ensures.all)
    c.loop-block.invariant
