use Rattle.std.proofs.Common.{[], ◌∷◌, pos, refl}
use Rattle.plan_tables_schema.specs.declared.tables.Table.TheVariants.{Meta}
use Rattle.plan_tables_writing.proofs.TakingLemmas.{taken_by, writes_weaker}
use Rattle.plan_tables_writing.proofs.lone_rows.delete_meta.Goals as goal

pub returns : goal.returns
returns g c = writes_weaker g.S.Store _ _ _ _ _ _ _ _ (λ all _. tt) (λ all t. ((pos 1, refl), tt))
    (taken_by g.S.Store c.args.tx.now c.delete.new.tx c.delete.result Meta _ _ (λ i. c.number.ensures i ∷ [])
    c.delete.ensures.writes c.delete.ensures.accepts)
