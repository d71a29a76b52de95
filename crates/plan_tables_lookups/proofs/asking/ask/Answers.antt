use Rattle.sqlite.specs.Held.{state}
use Rattle.sqlite.specs.Values.{bound}
use Rattle.plan_tables_schema.proofs.ResultLemmas.{if_err, if_ok, on_ok}
use Rattle.plan_tables_lookups.proofs.AskLemmas.{answered, fails, leaves, quiet, stays}
use Rattle.plan_tables_lookups.proofs.asking.ask.Goals as goal

pub returns-clause-rows : goal.returns-clause-rows
returns-clause-rows g c clean has =
    if_ok c.query_all.result _ _ (λ rows h. answered c.args.look (bound c.args.asked.now)
    (state g.S.Store c.args.conn.now)
    (state g.S.Store c.query_all.new.self) has c.schema.ensures.live rows.items h)
    (rw c.look_text.ensures at (c.query_all.ensures.ok clean))

pub returns-clause-same : goal.returns-clause-same
returns-clause-same g c clean has =
    on_ok c.query_all.result _ _ (λ rows h. stays c.args.look (bound c.args.asked.now) (state g.S.Store c.args.conn.now)
    (state g.S.Store c.query_all.new.self) has rows.items h)
    (rw c.look_text.ensures at (c.query_all.ensures.ok clean))

pub returns-clause-survives : goal.returns-clause-survives
returns-clause-survives g c =
    quiet c.args.look (bound c.args.asked.now) (state g.S.Store c.args.conn.now) (state g.S.Store c.query_all.new.self)
    (rw c.look_text.ensures at c.query_all.ensures.survives)

pub returns-clause-fails : goal.returns-clause-fails
returns-clause-fails g c clean has given =
    if_err c.query_all.result _ _ (λ e h. fails c.args.look (bound c.args.asked.now) (state g.S.Store c.args.conn.now)
    (state g.S.Store c.query_all.new.self) has given e h)
    (rw c.look_text.ensures at (c.query_all.ensures.err clean))

pub returns-clause-leaves : goal.returns-clause-leaves
returns-clause-leaves g c clean has =
    leaves c.args.look (bound c.args.asked.now) (state g.S.Store c.args.conn.now)
    (state g.S.Store c.query_all.new.self) has
    (λ rows. rows.items) c.query_all.result (rw c.look_text.ensures at (c.query_all.ensures.ok clean))
    (rw c.look_text.ensures at (c.query_all.ensures.err clean))
