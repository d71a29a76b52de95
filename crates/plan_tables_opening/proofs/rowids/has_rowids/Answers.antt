use Rattle.sqlite.specs.Held.{state}
use Rattle.plan_tables_schema.specs.Rows.{tables_of}
use Rattle.plan_tables_opening.proofs.rowids.has_rowids.Goals as goal

pub returns-clause-told : goal.returns-clause-told
returns-clause-told g c clean has =
    c.are_rowids.ensures (tables_of (state g.S.Store c.args.conn.now).now.trees c.args.table)
    (c.in_ok-rows.ensures.rows clean has)
