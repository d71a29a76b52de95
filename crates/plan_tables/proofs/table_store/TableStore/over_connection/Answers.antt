use Rattle.sqlite.specs.Held.{state}
use Rattle.plan_tables_opening.proofs.OpeningLemmas.{unmade_when}
use Rattle.plan_tables.proofs.table_store.TableStore.over_connection.Goals as goal

pub returns-in-Err-clause-unmade : goal.returns-in-Err-clause-unmade
returns-in-Err-clause-unmade g c = (
  c.in-Err._conn,
  λ clean. unmade_when (state g.S.Store c.args.conn) (state g.S.Store c.in-Err._conn) c.in-Err.fault
      (c.in-Err.ensures.unopened.unopened clean),
)
