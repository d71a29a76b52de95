use Rattle.planner_machine.specs.Content.{Content}
use Rattle.plan_store_lists.specs.Rows.{of_deletion, of_row}
use Rattle.plan_store.specs.Parts.{ListsAll}
use Rattle.plan_tables.proofs.ListLemmas.{finds_both, finds_not, finds_second}
use Rattle.plan_tables.proofs.listing.read_rest.Goals as goal

pub returns : goal.returns
returns g c = finds_both g.S.Store c.args.conn.now c.completed_rows.new.conn c.deleted_rows.new.conn
    c.in_ok-history.history (λ (k : Content) rows. ListsAll of_row rows.items k.sets.history)
    (λ (k : Content) rows. ListsAll of_deletion rows.items k.sets.deletions) c.in_ok-history.ensures
    c.in_ok-deletions.deletions c.in_ok-deletions.ensures

pub returns-in_err-deletions : goal.returns-in_err-deletions
returns-in_err-deletions g c = finds_second g.S.Store c.args.conn.now c.completed_rows.new.conn
    c.deleted_rows.new.conn c.in_ok-history.history (λ (k : Content) rows. ListsAll of_row rows.items k.sets.history)
    (λ (k : Content) rows. ListsAll of_deletion rows.items k.sets.deletions) c.in_ok-history.ensures _
    c.in_err-deletions.field-0.0 c.in_err-deletions.ensures c.from_residual-in_err-deletions.result
    c.from_residual-in_err-deletions.ensures.1

pub returns-in_err-history : goal.returns-in_err-history
returns-in_err-history g c = finds_not g.S.Store c.args.conn.now c.completed_rows.new.conn c.in_err-history.field-0.0 _ _
    c.in_err-history.ensures c.from_residual.result c.from_residual.ensures.1
