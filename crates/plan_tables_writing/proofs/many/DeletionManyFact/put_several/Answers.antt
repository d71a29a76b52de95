use Rattle.std.proofs.Common.{[], ◌∷◌, ◌∙◌, ap, arith, refl}
use Rattle.sqlite.specs.declared.types.Value.TheVariants.{Text}
use Rattle.plan_tables_content.specs.Facts.{natural, deletion_values}
use Rattle.plan_tables_schema.specs.declared.tables.Table.TheVariants.{Deletion as DeletionTable}
use Rattle.plan_tables_writing.proofs.ManyLemmas.{three_are, several_by}
use Rattle.plan_tables_writing.proofs.many.DeletionManyFact.put_several.Goals as goal

pub returns-in-Deletion : goal.returns-in-Deletion
returns-in-Deletion g c = several_by g.S.Store _ _ _ c.args.table DeletionTable _ deletion_values c.args.facts.now
    (c.a-item.result ∷ c.b-item.result ∷ c.c-item.result ∷ []) c.in-Deletion.is
    (three_are c.args.facts.now c.a-item.result c.b-item.result c.c-item.result
    (omega (arith, c.in-len3.len_at_least, c.in-len3.len_below)) c.a-item.is c.b-item.is c.c-item.is)
    (λ i. (c.number.ensures ∙ ap natural c.get.ensures.number) i
    ∷ Text (c.as_bytes.ensures.value i) ∷ (c.number-in-len3-2.ensures ∙ ap natural c.number-in-len3.ensures.value) i
    ∷ (c.number-in-len3-4.ensures ∙ ap natural c.number-in-len3-3.ensures.value) i ∷ c.origin.ensures i ∷ Text (c.letter.ensures i ∷ [])
    ∷ (c.number-in-len3-5.ensures ∙ ap natural c.get-in-len3.ensures.number) i
    ∷ Text (c.as_bytes-in-len3.ensures.value i) ∷ (c.number-in-len3-7.ensures ∙ ap natural c.number-in-len3-6.ensures.value) i
    ∷ (c.number-in-len3-9.ensures ∙ ap natural c.number-in-len3-8.ensures.value) i ∷ c.origin-in-len3.ensures i ∷ Text (c.letter-in-len3.ensures i ∷ [])
    ∷ (c.number-in-len3-10.ensures ∙ ap natural c.get-in-len3-2.ensures.number) i
    ∷ Text (c.as_bytes-in-len3-2.ensures.value i) ∷ (c.number-in-len3-12.ensures ∙ ap natural c.number-in-len3-11.ensures.value) i
    ∷ (c.number-in-len3-14.ensures ∙ ap natural c.number-in-len3-13.ensures.value) i ∷ c.origin-in-len3-2.ensures i ∷ Text (c.letter-in-len3-2.ensures i ∷ []) ∷ [])
    refl refl c.insert_several.ensures.writes c.insert_several.ensures.accepts
