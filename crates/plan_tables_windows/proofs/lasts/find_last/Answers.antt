use Rattle.plan_store.specs.Contents.{content_of}
use Rattle.plan_tables_windows.specs.Loading.{IsAnswered}
use Rattle.plan_tables_windows.proofs.LoadLemmas.{gathers_last, gathers_no_last}
use Rattle.plan_tables_windows.proofs.FetchLemmas.{gathers_failed}
use Rattle.plan_tables_windows.proofs.lasts.find_last.Goals as goal

pub returns-in-Some : goal.returns-in-Some
returns-in-Some g c =
    gathers_last g.S.Store c.args.conn.now c.last_completed.new.conn c.args.query.now (content_of c.args.lists.now)
    c.in-Some.row (rw (c.in-Some.is, c.number.ensures.value) at c.in_ok-row.ensures)
    (content_of c.load_row.new.lists) c.load_row.result c.load_row.ensures

pub returns-in-None : goal.returns-in-None
returns-in-None g c =
    gathers_no_last g.S.Store c.args.conn.now c.last_completed.new.conn c.args.query.now (content_of c.args.lists.now)
    (rw (c.in-None.is, c.number.ensures.value) at c.in_ok-row.ensures)

pub returns-in_err-row : goal.returns-in_err-row
returns-in_err-row g c =
    gathers_failed g.S.Store c.args.conn.now c.last_completed.new.conn _ (content_of c.args.lists.now)
    (IsAnswered c.args.query.now) c.in_err-row.field-0.0 c.in_err-row.ensures c.from_residual.result
    c.from_residual.ensures.1
