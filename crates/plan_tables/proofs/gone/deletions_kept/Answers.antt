use Rattle.plan_tables.proofs.WhyLemmas.{ends_for, fact_fails}
use Rattle.plan_tables.proofs.gone.deletions_kept.Goals as goal

pub returns-in-Err-clause-asks : goal.returns-in-Err-clause-asks
returns-in-Err-clause-asks g c lists =
    (ends_for g.S.Store c.args.conn.now c.find_deletions.new.conn lists c.why_of.new.conn c.in-Err.fault c.why_of.result
    (fact_fails g.S.Store c.args.conn.now c.find_deletions.new.conn lists c.in-Err.fault _ c.in-Err.ensures)
    c.why_of.ensures).asks
