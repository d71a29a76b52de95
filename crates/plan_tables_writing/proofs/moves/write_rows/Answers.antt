use Rattle.plan_tables_writing.proofs.KindLemmas.{cp_alone, cp_keys, deletions_alone, deletions_keys, history_alone, history_keys}
use Rattle.plan_tables_writing.proofs.KindLemmas.{cp_storable, deletions_storable, history_storable, ltp_alone, ltp_keys, ltp_storable}
use Rattle.plan_tables_writing.proofs.TakingLemmas.{writes_no_more, writes_then, writes_weaker}
use Rattle.plan_tables_writing.proofs.moves.write_rows.Goals as goal

pub returns : goal.returns
returns g c = writes_weaker g.S.Store _ _ _ _ _ _ _ _
    (λ all _. (
      (((ltp_storable, ltp_alone), (cp_storable, cp_alone)), (history_storable, history_alone)),
      (deletions_storable, deletions_alone),
    ))
    (λ all t. (
      ((((ltp_keys, ltp_alone), t.0), ((cp_keys, cp_alone), t.1)), ((history_keys, history_alone), t.2)),
      ((deletions_keys, deletions_alone), t.3),
    ))
    (writes_then (writes_then (writes_then c.in_ok-write_moves.ensures c.in_ok-write_moves-2.ensures)
    c.in_ok-write_moves-3.ensures) c.write_moves-4.ensures)

pub returns-in_err-write_moves : goal.returns-in_err-write_moves
returns-in_err-write_moves g c = writes_no_more c.from_residual.result c.from_residual.ensures.1
    (λ all t. ((ltp_keys, ltp_alone), t.0)) c.in_err-write_moves.ensures

pub returns-in_err-write_moves-2 : goal.returns-in_err-write_moves-2
returns-in_err-write_moves-2 g c = writes_no_more c.from_residual-in_err-write_moves-2.result
    c.from_residual-in_err-write_moves-2.ensures.1 (λ all t. (((ltp_keys, ltp_alone), t.0), ((cp_keys, cp_alone), t.1)))
    (writes_then c.in_ok-write_moves.ensures c.in_err-write_moves-2.ensures)

pub returns-in_err-write_moves-3 : goal.returns-in_err-write_moves-3
returns-in_err-write_moves-3 g c = writes_no_more c.from_residual-in_err-write_moves-3.result
    c.from_residual-in_err-write_moves-3.ensures.1
    (λ all t. ((((ltp_keys, ltp_alone), t.0), ((cp_keys, cp_alone), t.1)), ((history_keys, history_alone), t.2)))
    (writes_then (writes_then c.in_ok-write_moves.ensures c.in_ok-write_moves-2.ensures) c.in_err-write_moves-3.ensures)
