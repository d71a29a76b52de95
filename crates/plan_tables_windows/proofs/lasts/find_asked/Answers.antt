use Rattle.plan_store.specs.Contents.{content_of}
use Rattle.plan_store.specs.Views.{Asks}
use Rattle.plan_tables_windows.specs.Windows.{HasLastsOf}
use Rattle.plan_tables_windows.specs.Loading.{IsAnswered}
use Rattle.plan_tables_windows.proofs.EachLemmas.{Each}
use Rattle.plan_tables_windows.proofs.FetchLemmas.{gathers_refused, gathers_so}
use Rattle.plan_tables_windows.proofs.NeedLemmas.{asked_found}
use Rattle.plan_tables_windows.proofs.lasts.find_asked.Goals as goal

pub returns : goal.returns
returns g c =
    let was = content_of c.args.lists.now in
    let now = content_of c.find_lasts.new.lists in
    let queries = c.in_ok-queries.queries.items in
    gathers_so g.S.Store c.args.conn.now c.find_lasts.new.conn was now c.find_lasts.result (Each IsAnswered queries)
    (λ rest c'. HasLastsOf (Asks c.args.need.now c') rest c')
    (λ rest part sound more answered. asked_found c.args.need.now rest was now queries c.in_ok-queries.ensures.found more
    answered)
    (rw c.deref.ensures.value at c.find_lasts.ensures)

pub returns-in_err-queries : goal.returns-in_err-queries
returns-in_err-queries g c = gathers_refused g.S.Store c.args.conn.now (content_of c.args.lists.now)
    (λ rest now. HasLastsOf (Asks c.args.need.now now) rest now) c.from_residual.result
    c.from_residual.ensures.1
