use Rattle.std.proofs.Common.{◌≡◌, ◌+◌, ◌++◌, ◌∷◌, ◌∙◌, List, [], take, sym, ap, subst, arith}
use Rattle.std.proofs.lemmas.List.{take_all, take_more}
use Rattle.external_dependencies.specs.declared.links.Link.{Link}
use Rattle.plan_store.specs.Queries.{AddsQueries, IsAsked, ReadByOne}
use Rattle.plan_store.proofs.QueryLemmas.{asks_more}
use Rattle.plan_store.proofs.queries.add_links.Goals as goal

-- one more link
pub loop-link-preserved : goal.loop-link-preserved
loop-link-preserved c =
    let minute = c.args.moment + 1 in
    let list = c.args.links.now in
    let link = c.link-item.result in
    let index = c.loop-link.link-index in
    let old = c.args.queries.now.items in
    let new = c.add_query.new.queries.items in
    let front : take (index + 1) list ≡ take index list ++ link ∷ [] = take_more list index link c.loop-link-test.true
    ∙ ap (λ x. take index list ++ x ∷ []) (sym c.link-item.is) in
    subst (λ (ls : List Link). AddsQueries (ReadByOne (λ (l : Link). IsAsked l.predecessor minute) ls) old new)
    (sym front)
    (asks_more (λ (l : Link). IsAsked l.predecessor minute) (take index list) link old
    c.loop-link.queries.items new c.loop-link.invariant c.in_ok-add_query.ensures)

-- all links
pub returns : goal.returns
returns c =
    subst (λ (ls : List Link). AddsQueries (ReadByOne (λ (l : Link). IsAsked l.predecessor (c.args.moment + 1)) ls)
    c.args.queries.now.items c.loop-link.queries.items)
    (take_all c.loop-link.link-index c.args.links.now (omega arith)) c.loop-link.invariant
