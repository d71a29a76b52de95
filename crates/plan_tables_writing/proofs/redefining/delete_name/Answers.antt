use Rattle.std.proofs.Common.{[], ◌∷◌}
use Rattle.sqlite.specs.declared.types.Value.TheVariants.{Text}
use Rattle.plan_tables_writing.proofs.TakingLemmas.{taken_by}
use Rattle.plan_tables_writing.proofs.redefining.delete_name.Goals as goal

pub returns : goal.returns
returns g c = taken_by g.S.Store c.args.tx.now c.delete.new.tx c.delete.result c.args.table _ _
    (λ i. Text (c.as_bytes.ensures.value i) ∷ []) c.delete.ensures.writes c.delete.ensures.accepts
