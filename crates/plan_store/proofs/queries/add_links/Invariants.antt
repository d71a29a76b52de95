use Rattle.std.proofs.Common.{◌+◌, take}
use Rattle.external_dependencies.specs.declared.links.Link.{Link}
use Rattle.plan_store.specs.Queries.{AddsQueries, IsAsked, ReadByOne}
use Rattle.plan_store.proofs.queries.add_links.Given as goal

-- those of the links so far
abbrev pub invariant-loop-link : goal.invariant-loop-link
invariant-loop-link l = AddsQueries (ReadByOne (λ (link : Link). IsAsked link.predecessor (l.moment + 1))
    (take l.link-index l.links)) l.initial.queries.items l.queries.items
