use Rattle.std.proofs.Common.{rules}
use Rattle.sqlite.specs.Held.{state}
use Rattle.plan_tables_schema.proofs.BlankLemmas.{is_sound, takes_first}
use Rattle.plan_tables_opening.proofs.FirstRows.{first_kinds}
use Rattle.plan_tables_opening.proofs.OpenedLemmas.{made_first}
use Rattle.plan_tables_opening.proofs.making.put_first.Goals as goal

pub returns : goal.returns
returns g c =
    let old = state g.S.Store c.args.tx.now.conn.now in
    let new = state g.S.Store c.insert.new.tx.conn.now in
    record {
      same_reference = search rules;
      ok = λ clean base begun. made_first c.insert.result base old new begun
          (c.insert.ensures.writes.ok clean begun.plan begun.mode first_kinds);
      fails = λ clean base begun. c.insert.ensures.accepts.fails clean (is_sound base old begun)
          (takes_first base old begun);
      stays_open = λ clean base begun. c.insert.ensures.stays_open clean begun.mode;
      kept = search rules;
      survives = search rules;
    }
