use Rattle.std.proofs.Common.{◌≡◌, ◌+◌, ◌++◌, ◌∷◌, ◌∙◌, List, Ok, [], ap, arith, subst, sym, take}
use Rattle.std.proofs.lemmas.List.{take_all, take_more}
use Rattle.plan_store.specs.Contents.{content_of}
use Rattle.plan_store.specs.declared.queries.LastQuery.{LastQuery}
use Rattle.plan_tables_windows.specs.Loading.{IsAnswered}
use Rattle.plan_tables_windows.specs.Fetching.{Fetches}
use Rattle.plan_tables_windows.proofs.EachLemmas.{Each, each_more, each_none, each_stops}
use Rattle.plan_tables_windows.proofs.NeedLemmas.{answered_still}
use Rattle.plan_tables_windows.proofs.lasts.find_lasts.Goals as goal

pub loop-query-init : goal.loop-query-init
loop-query-init g c = each_none g.S.Store IsAnswered c.args.conn.now (content_of c.args.lists.now)

-- one more query
pub loop-query-preserved : goal.loop-query-preserved
loop-query-preserved g c =
    let all = c.args.queries.now in
    let index = c.loop-query.query-index in
    let query = c.query-item.result in
    let front : take (index + 1) all ≡ take index all ++ query ∷ [] =
    take_more all index query c.loop-query-test.true ∙ ap (λ x. take index all ++ x ∷ []) (sym c.query-item.is) in
    subst (λ (l : List LastQuery). Fetches {T = Unit {0}} g.S.Store c.args.conn.now c.find_last.new.conn
    (content_of c.args.lists.now) (content_of c.find_last.new.lists) (Ok tt) (Each IsAnswered l)) (sym front)
    (each_more g.S.Store IsAnswered answered_still c.args.conn.now c.loop-query.conn c.find_last.new.conn
    (content_of c.args.lists.now) (content_of c.loop-query.lists) (content_of c.find_last.new.lists)
    (take index all) query c.loop-query.invariant c.in_ok-find_last.ensures)

pub returns-in_err-find_last : goal.returns-in_err-find_last
returns-in_err-find_last g c =
    each_stops g.S.Store IsAnswered answered_still c.args.conn.now c.loop-query.conn c.find_last.new.conn
    (content_of c.args.lists.now) (content_of c.loop-query.lists) (content_of c.find_last.new.lists)
    (take c.loop-query.query-index c.args.queries.now) c.query-item.result c.loop-query.invariant c.in_err-find_last.field-0.0
    (Each IsAnswered c.args.queries.now) c.in_err-find_last.ensures c.from_residual.result
    c.from_residual.ensures.1

-- all queries
pub returns : goal.returns
returns g c =
    subst (λ (l : List LastQuery). Fetches {T = Unit {0}} g.S.Store c.args.conn.now c.loop-query.conn
    (content_of c.args.lists.now) (content_of c.loop-query.lists) (Ok tt) (Each IsAnswered l))
    (take_all c.loop-query.query-index c.args.queries.now (omega arith)) c.loop-query.invariant
