use Rattle.std.proofs.Common.{[], ◌∷◌, ◌∙◌, ap}
use Rattle.plan_tables_content.specs.Facts.{natural}
use Rattle.plan_tables_writing.proofs.TakingLemmas.{taken_by}
use Rattle.plan_tables_writing.proofs.facts.RowFact.delete.Goals as goal

pub returns : goal.returns
returns g c = taken_by g.S.Store c.args.tx.now c.delete.new.tx c.delete.result c.args.table _ _
    (ap (λ v. v ∷ []) (c.number.ensures ∙ ap natural c.get.ensures.number)) c.delete.ensures.writes c.delete.ensures.accepts
