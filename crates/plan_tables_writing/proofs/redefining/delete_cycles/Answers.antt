use Rattle.std.proofs.Common.{refl}
use Rattle.plan_tables_writing.proofs.AloneLemmas.{cycles_alone}
use Rattle.plan_tables_writing.proofs.TakingLemmas.{writes_no_more, writes_then, writes_weaker}
use Rattle.plan_tables_writing.proofs.redefining.delete_cycles.Goals as goal

pub returns : goal.returns
returns g c = writes_weaker g.S.Store _ _ _ _ _ _ _ _ (λ all _. ((λ name has. tt), cycles_alone c.args.apps.now all))
    (λ all t. (
      ((λ name. (name, refl)), (λ name has. tt)),
      ((λ name. (name, refl)), cycles_alone c.args.apps.now all),
    ))
    (writes_then c.in_ok-delete_names.ensures c.delete_names-2.ensures)

pub returns-in_err-delete_names : goal.returns-in_err-delete_names
returns-in_err-delete_names g c = writes_no_more c.from_residual.result c.from_residual.ensures.1
    (λ all t. ((λ name. (name, refl)), (λ name has. tt))) c.in_err-delete_names.ensures
