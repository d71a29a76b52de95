use Rattle.std.proofs.Common.{◌≡◌, ◌+◌, ◌++◌, ◌∷◌, ◌∙◌, ℕ, List, [], take, sym, ap, subst, arith}
use Rattle.std.proofs.lemmas.List.{take_all, take_more}
use Rattle.plan_store_lists.specs.declared.namings.Naming.{Naming}
use Rattle.plan_store.specs.Contents.{content_of}
use Rattle.plan_store.specs.HistoryReads.{ReadsNaming}
use Rattle.plan_store.specs.Queries.{AddsQueries, ReadByOne}
use Rattle.plan_store.proofs.QueryLemmas.{asks_more}
use Rattle.plan_store.proofs.queries.add_each_naming.Goals as goal

-- one more application
pub loop-naming-preserved : goal.loop-naming-preserved
loop-naming-preserved c =
    let reads : Naming → List ℕ → ℕ → Type 0 = λ naming. ReadsNaming (content_of c.args.lists.now) naming.link.app in
    let list = c.args.namings.now in
    let naming = c.naming-item.result in
    let index = c.loop-naming.naming-index in
    let first = c.args.queries.now.items in
    let new = c.add_naming.new.queries.items in
    let front : take (index + 1) list ≡ take index list ++ naming ∷ [] =
    take_more list index naming c.loop-naming-test.true
    ∙ ap (λ x. take index list ++ x ∷ []) (sym c.naming-item.is) in
    subst (λ (xs : List Naming). AddsQueries (ReadByOne reads xs) first new) (sym front)
    (asks_more reads (take index list) naming first c.loop-naming.queries.items new c.loop-naming.invariant
    c.in_ok-add_naming.ensures)

-- all of them
pub returns : goal.returns
returns c =
    subst (λ (xs : List Naming). AddsQueries
    (ReadByOne (λ (naming : Naming). ReadsNaming (content_of c.args.lists.now) naming.link.app) xs)
    c.args.queries.now.items c.loop-naming.queries.items)
    (take_all c.loop-naming.naming-index c.args.namings.now (omega arith)) c.loop-naming.invariant
