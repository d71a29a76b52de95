use Rattle.plan_store.specs.Contents.{content_of}
use Rattle.plan_store.specs.Parts.{KnowsDeletion}
use Rattle.plan_tables_windows.proofs.LoadLemmas.{gathers_no_deletion, gathers_deletion}
use Rattle.plan_tables_windows.proofs.FetchLemmas.{gathers_failed}
use Rattle.plan_tables_windows.proofs.fetching.find_deleted.Goals as goal

pub returns-in-Some : goal.returns-in-Some
returns-in-Some g c =
    gathers_deletion g.S.Store c.args.conn.now c.deleted_row.new.conn c.args.serial (content_of c.args.lists.now)
    c.in-Some.deletion (rw c.in-Some.is at c.in_ok-deletion.ensures) (content_of c.load_deletion.new.lists)
    c.load_deletion.result c.load_deletion.ensures

pub returns-in-None : goal.returns-in-None
returns-in-None g c =
    gathers_no_deletion g.S.Store c.args.conn.now c.deleted_row.new.conn c.args.serial (content_of c.args.lists.now)
    (rw c.in-None.is at c.in_ok-deletion.ensures)

pub returns-in_err-deletion : goal.returns-in_err-deletion
returns-in_err-deletion g c =
    gathers_failed g.S.Store c.args.conn.now c.deleted_row.new.conn _ (content_of c.args.lists.now)
    (λ rest now. KnowsDeletion rest now c.args.serial) c.in_err-deletion.field-0.0 c.in_err-deletion.ensures c.from_residual.result
    c.from_residual.ensures.1
