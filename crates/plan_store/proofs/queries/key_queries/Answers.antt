use Rattle.std.proofs.Common.{◌+◌, List, [], subst}
use Rattle.plan_store.specs.HistoryReads.{ReadsKey}
use Rattle.plan_store.specs.Contents.{content_of}
use Rattle.plan_store.specs.Queries.{AddsQueries, IsAsked}
use Rattle.plan_store.specs.declared.queries.LastQuery.{LastQuery}
use Rattle.plan_store.proofs.QueryLemmas.{ask_ties, asks_key, asks_same}
use Rattle.plan_store.proofs.queries.key_queries.Goals as goal

pub put_in_order-requires : goal.put_in_order-requires
put_in_order-requires c = ask_ties

pub returns-clause-adds : goal.returns-clause-adds
returns-clause-adds c =
    let content = content_of c.args.lists.now in
    let key = c.args.key.now in
    let first = c.add_query.new.queries.items in
    let queries = c.add_list.new.queries.items in
    let own = subst (λ (old : List LastQuery). AddsQueries (IsAsked key.app (key.ia + 1)) old first)
    c.new-queries.ensures.items c.in_ok-add_query.ensures in
    asks_same (ReadsKey content key) [] queries c.put_in_order.new.items.items
    (asks_key content key [] first queries own c.in_ok-add_list.ensures) c.put_in_order.ensures.same
