use Rattle.plan_tables_writing.proofs.TakingLemmas.{writes_weaker}
use Rattle.plan_tables_writing.proofs.moves.write_moves.Goals as goal

pub returns : goal.returns
returns g c = writes_weaker g.S.Store _ _ _ _ _ _ _ _ (λ all f. (((f.1, f.1), f.0), f.0))
    (λ all t. (((t.0, t.0), t.1.0), t.1.1)) (rw (c.deref.ensures.value, c.deref-2.ensures.value, c.deref-3.ensures.value, c.deref-4.ensures.value) at c.run.ensures)
