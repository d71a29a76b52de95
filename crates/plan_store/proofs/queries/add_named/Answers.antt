use Rattle.std.proofs.Common.{◌≡◌, ◌+◌, ◌++◌, ◌∷◌, ◌∙◌, List, [], take, sym, ap, subst, arith}
use Rattle.std.proofs.lemmas.List.{take_all, take_more}
use Rattle.app_definition_records.specs.declared.predecessors.Predecessor.{Predecessor}
use Rattle.plan_store.specs.Queries.{AddsQueries, IsAsked, ReadByOne}
use Rattle.plan_store.proofs.QueryLemmas.{asks_more}
use Rattle.plan_store.proofs.queries.add_named.Goals as goal

-- one more predecessor
pub loop-predecessor-preserved : goal.loop-predecessor-preserved
loop-predecessor-preserved c =
    let minute = c.args.moment + 1 in
    let list = c.args.listed.now in
    let one = c.predecessor-item.result in
    let index = c.loop-predecessor.predecessor-index in
    let old = c.args.queries.now.items in
    let new = c.add_query.new.queries.items in
    let front : take (index + 1) list ≡ take index list ++ one ∷ [] =
    take_more list index one c.loop-predecessor-test.true
    ∙ ap (λ x. take index list ++ x ∷ []) (sym c.predecessor-item.is) in
    subst (λ (ls : List Predecessor). AddsQueries (ReadByOne (λ (p : Predecessor). IsAsked p.name minute) ls) old new)
    (sym front)
    (asks_more (λ (p : Predecessor). IsAsked p.name minute) (take index list) one old
    c.loop-predecessor.queries.items new c.loop-predecessor.invariant c.in_ok-add_query.ensures)

-- all predecessors
pub returns : goal.returns
returns c =
    subst (λ (ls : List Predecessor). AddsQueries
    (ReadByOne (λ (p : Predecessor). IsAsked p.name (c.args.moment + 1)) ls)
    c.args.queries.now.items c.loop-predecessor.queries.items)
    (take_all c.loop-predecessor.predecessor-index c.args.listed.now (omega arith)) c.loop-predecessor.invariant
