use Rattle.plan_store.specs.Contents.{content_of}
use Rattle.plan_store.specs.Parts.{Knows}
use Rattle.plan_tables_windows.proofs.LoadLemmas.{gathers_no_row, gathers_row}
use Rattle.plan_tables_windows.proofs.FetchLemmas.{gathers_failed}
use Rattle.plan_tables_windows.proofs.fetching.find_completed.Goals as goal

pub returns-in-Some : goal.returns-in-Some
returns-in-Some g c =
    gathers_row g.S.Store c.args.conn.now c.completed_row.new.conn c.args.serial (content_of c.args.lists.now)
    c.in-Some.row (rw c.in-Some.is at c.in_ok-row.ensures) (content_of c.load_row.new.lists)
    c.load_row.result c.load_row.ensures

pub returns-in-None : goal.returns-in-None
returns-in-None g c =
    gathers_no_row g.S.Store c.args.conn.now c.completed_row.new.conn c.args.serial (content_of c.args.lists.now)
    (rw c.in-None.is at c.in_ok-row.ensures)

pub returns-in_err-row : goal.returns-in_err-row
returns-in_err-row g c =
    gathers_failed g.S.Store c.args.conn.now c.completed_row.new.conn _ (content_of c.args.lists.now)
    (λ rest now. Knows rest now c.args.serial) c.in_err-row.field-0.0 c.in_err-row.ensures c.from_residual.result
    c.from_residual.ensures.1
