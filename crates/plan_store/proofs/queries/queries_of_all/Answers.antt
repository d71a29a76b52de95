use Rattle.std.proofs.Common.{List, [], None, refl, subst}
use Rattle.plan_store.specs.HistoryReads.{ReadsPlan}
use Rattle.plan_store.specs.Contents.{content_of}
use Rattle.plan_store.specs.Queries.{AddsQueries, ReadByOne, ReadsRow}
use Rattle.plan_store.specs.declared.queries.LastQuery.{LastQuery}
use Rattle.plan_store.proofs.QueryLemmas.{ask_ties, asks_plan, asks_same}
use Rattle.plan_store.proofs.queries.queries_of_all.Goals as goal

pub returns-clause-adds : goal.returns-clause-adds
returns-clause-adds c =
    let lists = c.args.lists.now in
    let content = content_of lists in
    let first = c.add_all_waiting.new.queries.items in
    let queries = c.add_plan_end.new.queries.items in
    let own = subst (λ (old : List LastQuery). AddsQueries (ReadByOne (ReadsRow content.in_force content.definitions)
    lists.cp.items) old first) c.new-queries.ensures.items c.in_ok-add_all_waiting.ensures in
    asks_same (ReadsPlan None content) [] queries c.put_in_order.new.items.items
    (asks_plan content lists.cp.items lists.cp_rows refl [] first queries own c.in_ok-add_plan_end.ensures)
    c.put_in_order.ensures.same

pub put_in_order-requires : goal.put_in_order-requires
put_in_order-requires c = ask_ties
