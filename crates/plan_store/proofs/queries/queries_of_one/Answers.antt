use Rattle.std.proofs.Common.{List, [], Some, subst}
use Rattle.plan_store.specs.HistoryReads.{ReadsNaming, ReadsPlan}
use Rattle.plan_store.specs.Contents.{content_of}
use Rattle.plan_store.specs.Queries.{AddsQueries}
use Rattle.plan_store.specs.declared.queries.LastQuery.{LastQuery}
use Rattle.plan_store.proofs.QueryLemmas.{ask_ties, asks_one_app, asks_same}
use Rattle.plan_store.proofs.queries.queries_of_one.Goals as goal

pub returns-clause-adds : goal.returns-clause-adds
returns-clause-adds c =
    let lists = c.args.lists.now in
    let content = content_of lists in
    let app = c.args.app.now in
    let first = c.add_naming.new.queries.items in
    let queries = c.add_each_naming.new.queries.items in
    let own = subst (λ (old : List LastQuery). AddsQueries (ReadsNaming content app) old first)
    c.new-queries.ensures.items c.in_ok-add_naming.ensures in
    asks_same (ReadsPlan (Some app) content) [] queries c.put_in_order.new.items.items
    (asks_one_app content app c.naming.result.now c.naming.ensures.all [] first queries own c.in_ok-add_each_naming.ensures)
    c.put_in_order.ensures.same

pub put_in_order-requires : goal.put_in_order-requires
put_in_order-requires c = ask_ties
