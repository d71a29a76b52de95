use Rattle.plan_migrations_remaking.proofs.ChangingLemmas.{first_stops, then_makes}
use Rattle.plan_migrations_remaking.proofs.changing.make_changed.Goals as goal

pub returns-in_err-make : goal.returns-in_err-make
returns-in_err-make g c = first_stops c.in_err-make.ensures c.from_residual.ensures.1

pub returns : goal.returns
returns g c = then_makes c.in_ok-make.ensures c.make-2.ensures
