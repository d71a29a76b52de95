use Rattle.std.proofs.Common.{arith, sym}
use Rattle.sqlite.specs.Held.{state}
use Rattle.plan_tables.specs.Kept.{kept_in}
use Rattle.plan_tables.proofs.LookLemmas.{none_so_great, put_by}
use Rattle.plan_tables.proofs.WhyLemmas.{asks_none, ends_for, fact_fails}
use Rattle.plan_tables.proofs.looking.job_kept.Goals as goal

pub returns-then-number-clause-found : goal.returns-then-number-clause-found
returns-then-number-clause-found g c clean lists kept =
    sym (none_so_great (kept_in (state g.S.Store c.args.conn.now) lists) c.args.number kept.sound (omega arith))

pub returns-then-number-clause-asks : goal.returns-then-number-clause-asks
returns-then-number-clause-asks g c = asks_none g.S.Store c.args.conn.now

pub returns-in-Ok-clause-found : goal.returns-in-Ok-clause-found
returns-in-Ok-clause-found g c clean lists kept =
    c.in-Ok.ensures.found clean kept.stored.plan.schema (kept_in (state g.S.Store c.args.conn.now) lists)
    kept.stored.content kept.sound

pub returns-in-Ok-clause-asks : goal.returns-in-Ok-clause-asks
returns-in-Ok-clause-asks g c lists =
    let did = c.in-Ok.ensures in
    record {
      stays = λ clean kept. put_by (state g.S.Store c.args.conn.now) (state g.S.Store c.kept_job.new.conn)
          (did.leaves clean kept.stored.plan.schema);
      opens = λ clean kept _. (did.same clean kept.stored.plan.schema).0.is_open;
      failed = λ clean kept device. absurd (let h : ⊥ = cc device in h);
      mode = did.mode;
      survives = did.survives;
    }

pub returns-in-Err-clause-asks : goal.returns-in-Err-clause-asks
returns-in-Err-clause-asks g c lists =
    (ends_for g.S.Store c.args.conn.now c.kept_job.new.conn lists c.why_of.new.conn c.in-Err.fault c.why_of.result
    (fact_fails g.S.Store c.args.conn.now c.kept_job.new.conn lists c.in-Err.fault _ c.in-Err.ensures)
    c.why_of.ensures).asks
