use Rattle.plan_tables_schema.proofs.InTurn.{turns_fail}
use Rattle.plan_migrations_remaking.proofs.RemakingLemmas.{loses_both, made_stops, then_made, then_refills}
use Rattle.plan_migrations_remaking.proofs.remaking.remake.Goals as goal

pub returns-in_err-drop_changed : goal.returns-in_err-drop_changed
returns-in_err-drop_changed g c = turns_fail (loses_both c.in_err-drop_changed.ensures) c.from_residual.ensures.1

pub returns-in_err-make_changed : goal.returns-in_err-make_changed
returns-in_err-make_changed g c = made_stops (then_made c.in_ok-drop_changed.ensures c.in_err-make_changed.ensures)
    c.from_residual-in_err-make_changed.ensures.1

pub returns : goal.returns
returns g c = then_refills (then_made c.in_ok-drop_changed.ensures c.in_ok-make_changed.ensures) c.refill.ensures
