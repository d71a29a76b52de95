use Rattle.std.proofs.Common.{◌+◌, ◌∙◌, ℕ, List, take, sym, ap, subst, arith}
use Rattle.std.proofs.lemmas.List.{take_all}
use Rattle.external_dependencies.specs.declared.links.Link.{Link}
use Rattle.plan_store_lists.specs.Blocks.{items_in}
use Rattle.plan_store_lists.proofs.RunLemmas.{items_more}
use Rattle.plan_store.specs.Queries.{AddsQueries, IsAsked, ReadByOne}
use Rattle.plan_store.proofs.QueryLemmas.{asks_both}
use Rattle.plan_store.proofs.queries.add_all_links.Goals as goal

-- what is asked for a link
abbrev asks_link : ℕ → Link → List ℕ → ℕ → Type 0
asks_link moment link = IsAsked link.predecessor (moment + 1)

-- one more block
pub loop-block-preserved : goal.loop-block-preserved
loop-block-preserved c =
    let asks = asks_link c.args.moment in
    let all = c.blocks-all.result.now in
    let block = c.block-item.result in
    let index = c.loop-block.block-index in
    let first = c.args.queries.now.items in
    let old = c.loop-block.queries.items in
    let new = c.add_links.new.queries.items in
    let own = subst (λ (links : List Link). AddsQueries (ReadByOne asks links) old new) c.items.ensures
    c.in_ok-add_links.ensures in
    subst (λ (links : List Link). AddsQueries (ReadByOne asks links) first new)
    (sym (items_more all index block c.loop-block-test.true c.block-item.is))
    (asks_both asks (items_in (take index all)) block.items.items first old new c.loop-block.invariant own)

-- all blocks
pub returns : goal.returns
returns c =
    let all = c.blocks-all.result.now in
    subst (λ (links : List Link). AddsQueries (ReadByOne (asks_link c.args.moment) links) c.args.queries.now.items
    c.loop-block.queries.items)
    (ap (λ bs. items_in bs) (take_all c.loop-block.block-index all (omega arith)) ∙ c.blocks-all.ensures)
    c.loop-block.invariant
