use Rattle.std.proofs.Common.{refl}
use Rattle.plan_store.proofs.views.View.pairs_of_open.Goals as goal

pub asked_of-requires : goal.asked_of-requires
asked_of-requires c = rw c.requires refl
