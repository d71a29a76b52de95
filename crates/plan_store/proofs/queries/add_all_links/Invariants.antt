use Rattle.std.proofs.Common.{◌+◌, take}
use Rattle.external_dependencies.specs.declared.links.Link.{Link}
use Rattle.plan_store_lists.specs.Blocks.{items_in}
use Rattle.plan_store.specs.Queries.{AddsQueries, IsAsked, ReadByOne}
use Rattle.plan_store.proofs.queries.add_all_links.Given as goal

-- those of the blocks so far
abbrev pub invariant-loop-block : goal.invariant-loop-block
invariant-loop-block l = AddsQueries (ReadByOne (λ (link : Link). IsAsked link.predecessor (l.moment + 1))
    (items_in (take l.block-index l.all))) l.initial.queries.items l.queries.items
