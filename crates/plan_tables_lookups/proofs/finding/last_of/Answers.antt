use Rattle.std.proofs.Common.{rules}
use Rattle.sqlite.specs.Held.{state}
use Rattle.plan_tables_schema.specs.Rows.{tables_of}
use Rattle.plan_tables_lookups.proofs.LastLemmas.{last_found}
use Rattle.plan_tables_lookups.proofs.finding.last_of.Goals as goal

pub returns-in-Ok : goal.returns-in-Ok
returns-in-Ok g c = record {
  found = λ clean has. last_found c.args.app.now c.args.moment (tables_of (state g.S.Store c.args.conn.now).now.trees)
      c.in-Ok.rows.items c.first_of.result
      (rw (c.text.ensures, c.number.ensures) at (c.in-Ok.ensures.rows clean has)) c.first_of.ensures;
  same = search rules;
  fails = search rules;
  leaves = search rules;
  mode = search rules;
  survives = search rules;
}
