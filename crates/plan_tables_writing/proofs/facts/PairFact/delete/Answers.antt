use Rattle.std.proofs.Common.{[], ◌∷◌, ◌∙◌, ap}
use Rattle.plan_tables_content.specs.Facts.{natural}
use Rattle.plan_tables_writing.proofs.TakingLemmas.{taken_by}
use Rattle.plan_tables_writing.proofs.facts.PairFact.delete.Goals as goal

pub returns : goal.returns
returns g c = taken_by g.S.Store c.args.tx.now c.delete.new.tx c.delete.result c.args.table _ _
    (λ i. (c.number.ensures ∙ ap natural c.get.ensures.number) i ∷ (c.number-2.ensures ∙ ap natural c.get-2.ensures.number) i ∷ []) c.delete.ensures.writes c.delete.ensures.accepts
