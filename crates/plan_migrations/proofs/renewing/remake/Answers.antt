use Rattle.sqlite.specs.Held.{state}
use Rattle.plan_migrations.proofs.ReadLemmas.{fails_to_remake}
use Rattle.plan_migrations.proofs.renewing.remake.Goals as goal

pub returns-in-Err-clause-failed : goal.returns-in-Err-clause-failed
returns-in-Err-clause-failed g c clean has =
    fails_to_remake (state g.S.Store c.args.conn.now) (state g.S.Store c.remake_tables.new.conn) c.args.reads.now
    c.in-Err.error c.remake_fault.result (c.in-Err.ensures.commits.fails clean has) (c.in-Err.ensures.device clean has)
    c.remake_fault.ensures

pub returns-in-Ok-clause-remade : goal.returns-in-Ok-clause-remade
returns-in-Ok-clause-remade g c clean can =
    let done = c.in-Ok.ensures.commits.done clean can in record {
      remade = done.remade;
      plan = done.plan;
      made = record {
        schema = (state g.S.Store c.remake_tables.new.conn).now.schema;
        remade = done.remade;
        obeys = done.obeys;
        plan = done.plan.schema;
        rowids = done.plan.rowids;
        rows = done.rows;
      };
      settled = c.in-Ok.ensures.commits.committed clean;
      is_open = c.in-Ok.ensures.commits.stays_open clean;
    }
