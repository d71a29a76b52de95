use Rattle.planner_cli.proofs.NothingLemmas.{ran_from, served_from, stopped_from}
use Rattle.planner_cli.proofs.over_lists.run_from_nothing.Goals as goal

pub returns-clause-ran : goal.returns-clause-ran
returns-clause-ran g c = ran_from c.run.result _ _ _ _ _ c.requires (c.run.ensures.ran tt)

pub returns-clause-fault : goal.returns-clause-fault
returns-clause-fault g c = stopped_from c.run.result _ _ _ _ _ c.requires (c.run.ensures.fault tt)

pub returns-clause-served : goal.returns-clause-served
returns-clause-served g c = served_from c.run.result c.run.ensures.blames
