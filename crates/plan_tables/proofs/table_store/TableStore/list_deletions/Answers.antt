use Rattle.plan_tables.proofs.table_store.TableStore.list_deletions.Goals as goal

pub returns-in-Some : goal.returns-in-Some
returns-in-Some g c = rw c.in-Some.is c.list_gone.ensures

pub returns-in-None : goal.returns-in-None
returns-in-None g c = rw c.in-None.is c.list_asked.ensures
