use Rattle.plan_tables_writing.proofs.KindLemmas.{links_alone, links_keys, links_storable}
use Rattle.plan_tables_writing.proofs.TakingLemmas.{writes_no_more, writes_then, writes_weaker}
use Rattle.plan_tables_writing.proofs.moves.replace_links.Goals as goal

pub returns : goal.returns
returns g c = writes_weaker g.S.Store _ _ _ _ _ _ _ _ (λ all _. (links_alone, links_storable))
    (λ all t. ((links_keys, links_alone), t))
    (writes_then (rw (c.deref.ensures.value, c.in_ok-gone.ensures) at c.in_ok-delete_each.ensures)
    (rw (c.deref-2.ensures.value, c.in_ok-come.ensures) at c.put_each.ensures))

pub returns-in_err-delete_each : goal.returns-in_err-delete_each
returns-in_err-delete_each g c = writes_no_more c.from_residual-in_err-delete_each.result
    c.from_residual-in_err-delete_each.ensures.1 (λ all t. (links_keys, links_alone)) c.in_err-delete_each.ensures
