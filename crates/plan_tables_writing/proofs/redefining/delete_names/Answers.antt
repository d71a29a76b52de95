use Rattle.plan_tables_writing.proofs.TakingLemmas.{writes_weaker}
use Rattle.plan_tables_writing.proofs.TurnLemmas.{always, both, go_alone}
use Rattle.plan_tables_writing.proofs.redefining.delete_names.Goals as goal

pub returns : goal.returns
returns g c =
    let names = c.args.names.now in
    writes_weaker g.S.Store _ _ _ _ _ _ _ _ (λ all alone. go_alone c.args.table names all alone)
    (λ all accepts. both _ _ _ names all (always _ _ names (λ name has now. accepts.0 name) all)
    (go_alone c.args.table names all accepts.1)) c.write_each.ensures
