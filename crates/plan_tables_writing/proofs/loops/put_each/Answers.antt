use Rattle.plan_tables_writing.proofs.TakingLemmas.{writes_weaker}
use Rattle.plan_tables_writing.proofs.TurnLemmas.{always, rows_taken}
use Rattle.plan_tables_writing.proofs.loops.put_each.Goals as goal

pub returns : goal.returns
returns g c = writes_weaker g.S.Store _ _ _ _ _ _ _ _ (λ all kinds. always _ _ c.args.facts.now (λ x has now. kinds x) all)
    (λ all accepts. rows_taken c.args.table g.R.Fact.values c.args.facts.now all accepts) c.write_each.ensures
