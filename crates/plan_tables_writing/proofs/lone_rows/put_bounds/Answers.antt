use Rattle.std.proofs.Common.{◌∙◌, ap, [], ◌∷◌}
use Rattle.sqlite.specs.declared.types.Value.TheVariants.{Text}
use Rattle.plan_tables_content.specs.Facts.{natural}
use Rattle.plan_tables_writing.proofs.TakingLemmas.{put_by}
use Rattle.plan_tables_writing.proofs.lone_rows.put_bounds.Goals as goal

pub returns : goal.returns
returns g c = put_by g.S.Store c.args.tx.now c.insert.new.tx c.insert.result c.args.table _ _
    (λ i. c.number.ensures i ∷ c.number-2.ensures i ∷ c.number-3.ensures i
    ∷ (c.number-5.ensures ∙ ap natural c.number-4.ensures.value) i
    ∷ (c.number-7.ensures ∙ ap natural c.number-6.ensures.value) i
    ∷ (c.number-9.ensures ∙ ap natural c.number-8.ensures.value) i ∷ c.number-10.ensures i
    ∷ Text (c.as_bytes.ensures.value i) ∷ (c.number-11.ensures ∙ ap natural c.from.ensures) i ∷ [])
    c.insert.ensures.writes c.insert.ensures.accepts
