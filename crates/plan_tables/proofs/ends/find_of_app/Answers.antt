use Rattle.planner_machine.specs.Content.{Content}
use Rattle.plan_tables_queries.specs.OfApp.{AreAllOf}
use Rattle.plan_tables.proofs.EndLemmas.{all_of_sorted}
use Rattle.plan_tables.proofs.ListLemmas.{finds_as, finds_not}
use Rattle.plan_tables.proofs.ends.find_of_app.Goals as goal

pub returns-clause-found : goal.returns-clause-found
returns-clause-found g c =
    finds_as g.S.Store c.args.conn.now c.completed_of.new.conn c.in_ok-found.found c.sort_by_serial.new.rows
    (λ (k : Content) rows. AreAllOf k.sets.history c.args.app.now rows.items)
    (λ (k : Content) rows. AreAllOf k.sets.history c.args.app.now rows.items) c.in_ok-found.ensures
    (λ k _ all. all_of_sorted k.sets.history c.args.app.now c.in_ok-found.found.items c.sort_by_serial.new.rows.items
    c.sort_by_serial.ensures.same all)

pub returns-in_err-found-clause-found : goal.returns-in_err-found-clause-found
returns-in_err-found-clause-found g c =
    finds_not g.S.Store c.args.conn.now c.completed_of.new.conn c.in_err-found.field-0.0 _ _ c.in_err-found.ensures c.from_residual.result
    c.from_residual.ensures.1
