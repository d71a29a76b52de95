use Rattle.plan_store.proofs.FittingLemmas.{new_is}
use Rattle.plan_store.proofs.fitting.is_new.Goals as goal

pub returns : goal.returns
returns g c = new_is _ _ c.is_none.result c.of_same_serial.ensures c.is_none.ensures
