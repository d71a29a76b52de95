use Rattle.plan_store.proofs.FittingLemmas.{stands_is, stands_not}
use Rattle.plan_store.proofs.fitting.stands.Goals as goal

pub returns-in-Some : goal.returns-in-Some
returns-in-Some g c = stands_is _ c.in-Some.was c.args.x.now c.is.result c.in-Some.ensures c.is.ensures

pub returns-in-None : goal.returns-in-None
returns-in-None g c = stands_not _ c.args.x.now c.in-None.ensures
