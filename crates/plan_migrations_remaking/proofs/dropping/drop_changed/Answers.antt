use Rattle.plan_tables_schema.proofs.InTurn.{turns_fail, turns_then}
use Rattle.plan_migrations_remaking.specs.Refusals.{RefusesToLose}
use Rattle.plan_migrations_remaking.proofs.CauseLemmas.{refusing}
use Rattle.plan_migrations_remaking.proofs.dropping.drop_changed.Goals as goal

pub returns-in_err-drop_links : goal.returns-in_err-drop_links
returns-in_err-drop_links g c = turns_fail c.in_err-drop_links.ensures c.from_residual.ensures.1

pub returns : goal.returns
returns g c = turns_then (refusing RefusesToLose) c.in_ok-drop_links.ensures c.drop_predecessors.ensures
