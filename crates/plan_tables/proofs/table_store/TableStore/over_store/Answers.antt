use Rattle.plan_tables.proofs.RefusedLemmas.{given_back}
use Rattle.plan_tables.proofs.table_store.TableStore.over_store.Goals as goal

pub returns-in-Err-clause-refused : goal.returns-in-Err-clause-refused
returns-in-Err-clause-refused g c =
    given_back g.S.Store g.met.S.Store.settled c.args.conn c.in-Err.conn c.in-Err.fault c.into_store.result
    c.in-Err.ensures.unopened c.into_store.ensures.quiet
