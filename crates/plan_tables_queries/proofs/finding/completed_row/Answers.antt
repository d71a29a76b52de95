use Rattle.plan_tables_queries.proofs.NumberLemmas.{finds_number, history_numbered, no_more}
use Rattle.plan_tables_queries.proofs.finding.completed_row.Goals as goal

pub returns : goal.returns
returns g c = finds_number _ _ _ _ _ _ history_numbered g.S.Store c.args.conn.now c.history_of_serial-found.new.conn
    c.args.serial c.history_of_serial-found.result (rw c.get.ensures.number at c.history_of_serial-found.ensures)
    c.decode_found.result (no_more _) c.decode_found.ensures
