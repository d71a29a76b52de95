use Rattle.plan_tables_queries.proofs.NumberLemmas.{deletions_numbered, finds_number, no_more}
use Rattle.plan_tables_queries.proofs.finding.deleted_row.Goals as goal

pub returns : goal.returns
returns g c = finds_number _ _ _ _ _ _ deletions_numbered g.S.Store c.args.conn.now
    c.deletion_of_serial-found.new.conn c.args.serial c.deletion_of_serial-found.result
    (rw c.get.ensures.number at c.deletion_of_serial-found.ensures) c.decode_found.result (no_more _)
    c.decode_found.ensures
