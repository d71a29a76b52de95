use Rattle.plan_store.proofs.queries.plan_queries.Goals as goal

pub returns-in-Some-clause-adds : goal.returns-in-Some-clause-adds
returns-in-Some-clause-adds c = rw c.in-Some.is c.queries_of_one.ensures.adds

pub returns-in-None-clause-adds : goal.returns-in-None-clause-adds
returns-in-None-clause-adds c = rw c.in-None.is c.queries_of_all.ensures.adds
