use Rattle.std.proofs.Common.{ap}
use Rattle.plan_store.specs.HistoryReads.{ReadsKey, ReadsPlan}
use Rattle.plan_store.specs.Contents.{content_of}
use Rattle.plan_store.specs.Views.{Asks}
use Rattle.plan_store.specs.declared.stores.Need.{Need}
use Rattle.plan_store.proofs.QueryLemmas.{asks_found, asks_only}
use Rattle.plan_store.proofs.queries.last_queries_of.Goals as goal

pub returns-in-Key-clause-found : goal.returns-in-Key-clause-found
returns-in-Key-clause-found c =
    let content = content_of c.args.lists.now in
    asks_found (ReadsKey content c.in-Key.key) (Asks c.args.need.now content)
    (ap (λ (need : Need). Asks need content) c.in-Key.is) c.key_queries.result c.key_queries.ensures.adds

pub returns-in-Key-clause-only : goal.returns-in-Key-clause-only
returns-in-Key-clause-only c =
    let content = content_of c.args.lists.now in
    asks_only (ReadsKey content c.in-Key.key) (Asks c.args.need.now content)
    (ap (λ (need : Need). Asks need content) c.in-Key.is) c.key_queries.result c.key_queries.ensures.adds

pub returns-in-LongTerm-clause-found : goal.returns-in-LongTerm-clause-found
returns-in-LongTerm-clause-found c =
    let content = content_of c.args.lists.now in
    asks_found (ReadsPlan c.in-LongTerm.only content) (Asks c.args.need.now content)
    (ap (λ (need : Need). Asks need content) c.in-LongTerm.is) c.plan_queries.result c.plan_queries.ensures.adds

pub returns-in-LongTerm-clause-only : goal.returns-in-LongTerm-clause-only
returns-in-LongTerm-clause-only c =
    let content = content_of c.args.lists.now in
    asks_only (ReadsPlan c.in-LongTerm.only content) (Asks c.args.need.now content)
    (ap (λ (need : Need). Asks need content) c.in-LongTerm.is) c.plan_queries.result c.plan_queries.ensures.adds
