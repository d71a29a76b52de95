use Rattle.plan_tables_writing.proofs.KindLemmas.{pairs_alone, pairs_keys, pairs_storable}
use Rattle.plan_tables_writing.proofs.TakingLemmas.{writes_no_more, writes_then, writes_weaker}
use Rattle.plan_tables_writing.proofs.moves.write_pairs.Goals as goal

pub returns : goal.returns
returns g c = writes_weaker g.S.Store _ _ _ _ _ _ _ _ (λ all _. ((pairs_alone, pairs_alone), pairs_storable))
    (λ all t. (((pairs_keys, pairs_alone), (pairs_keys, pairs_alone)), t))
    (writes_then (writes_then (rw c.as_slice-2.ensures.all at c.in_ok-delete_each.ensures)
    (rw (c.deref.ensures.value, c.in_ok-there.ensures, c.as_slice.ensures.all) at c.in_ok-delete_each-2.ensures))
    (rw c.as_slice-3.ensures.all at c.put_many.ensures))

pub returns-in_err-delete_each : goal.returns-in_err-delete_each
returns-in_err-delete_each g c = writes_no_more c.from_residual-in_err-delete_each.result
    c.from_residual-in_err-delete_each.ensures.1 (λ all t. (pairs_keys, pairs_alone)) c.in_err-delete_each.ensures

pub returns-in_err-delete_each-2 : goal.returns-in_err-delete_each-2
returns-in_err-delete_each-2 g c = writes_no_more c.from_residual-in_err-delete_each-2.result
    c.from_residual-in_err-delete_each-2.ensures.1 (λ all t. ((pairs_keys, pairs_alone), (pairs_keys, pairs_alone)))
    (writes_then c.in_ok-delete_each.ensures c.in_err-delete_each-2.ensures)
