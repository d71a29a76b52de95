use Rattle.plan_tables_writing.proofs.TakingLemmas.{writes_weaker}
use Rattle.plan_tables_writing.proofs.TurnLemmas.{always}
use Rattle.plan_tables_writing.proofs.loops.delete_each.Goals as goal

pub returns : goal.returns
returns g c = writes_weaker g.S.Store _ _ _ _ _ _ _ _
    (λ all alone. always _ _ c.args.facts.now (λ x has now. alone (g.R.Fact.key x) now) all)
    (λ all accepts. always _ _ c.args.facts.now (λ x has now. (accepts.0 x, accepts.1 (g.R.Fact.key x) now)) all)
    c.write_each.ensures
