use Rattle.plan_tables_writing.proofs.AloneLemmas.{names_alone}
use Rattle.plan_tables_writing.proofs.TakingLemmas.{writes_no_more, writes_then, writes_weaker}
use Rattle.plan_tables_writing.proofs.redefining.renew.Goals as goal

pub returns : goal.returns
returns g c =
    let names = c.args.moves.now.names.items in
    writes_weaker g.S.Store _ _ _ _ _ _ _ _ (λ all f. (names_alone c.args.table names all f.0, f.1))
    (λ all t. ((t.0.0, names_alone c.args.table names all t.0.1), t.1))
    (writes_then (rw c.deref.ensures.value at c.in_ok-delete_names.ensures)
    (rw c.deref-2.ensures.value at c.put_rows.ensures))

pub returns-in_err-delete_names : goal.returns-in_err-delete_names
returns-in_err-delete_names g c = writes_no_more c.from_residual.result c.from_residual.ensures.1
    (λ all t. (t.0.0, names_alone c.args.table c.args.moves.now.names.items all t.0.1))
    (rw c.deref.ensures.value at c.in_err-delete_names.ensures)
