use Rattle.std.proofs.Common.{[], ◌∷◌, ◌∙◌, ap, arith, refl}
use Rattle.plan_tables_content.specs.Facts.{natural, pair_values}
use Rattle.plan_tables_schema.specs.declared.tables.Table.TheVariants.{Dependency}
use Rattle.plan_tables_writing.proofs.ManyLemmas.{nine_are, several_by}
use Rattle.plan_tables_writing.proofs.many.PairManyFact.put_several.Goals as goal

pub returns-in-Dependency : goal.returns-in-Dependency
returns-in-Dependency g c = several_by g.S.Store _ _ _ c.args.table Dependency _ pair_values c.args.facts.now
    (c.a-item.result ∷ c.b-item.result ∷ c.c-item.result ∷ c.d-item.result ∷ c.e-item.result ∷ c.f-item.result ∷ c.g-item.result ∷ c.h-item.result ∷ c.i-item.result ∷ []) c.in-Dependency.is
    (nine_are c.args.facts.now c.a-item.result c.b-item.result c.c-item.result c.d-item.result c.e-item.result c.f-item.result c.g-item.result c.h-item.result c.i-item.result
    (omega (arith, c.in-len9.len_at_least, c.in-len9.len_below)) c.a-item.is c.b-item.is c.c-item.is c.d-item.is c.e-item.is c.f-item.is c.g-item.is c.h-item.is c.i-item.is)
    (λ i. (c.number.ensures ∙ ap natural c.get.ensures.number) i ∷ (c.number-in-len9.ensures ∙ ap natural c.get-in-len9.ensures.number) i
    ∷ (c.number-in-len9-2.ensures ∙ ap natural c.get-in-len9-2.ensures.number) i ∷ (c.number-in-len9-3.ensures ∙ ap natural c.get-in-len9-3.ensures.number) i
    ∷ (c.number-in-len9-4.ensures ∙ ap natural c.get-in-len9-4.ensures.number) i ∷ (c.number-in-len9-5.ensures ∙ ap natural c.get-in-len9-5.ensures.number) i
    ∷ (c.number-in-len9-6.ensures ∙ ap natural c.get-in-len9-6.ensures.number) i ∷ (c.number-in-len9-7.ensures ∙ ap natural c.get-in-len9-7.ensures.number) i
    ∷ (c.number-in-len9-8.ensures ∙ ap natural c.get-in-len9-8.ensures.number) i ∷ (c.number-in-len9-9.ensures ∙ ap natural c.get-in-len9-9.ensures.number) i
    ∷ (c.number-in-len9-10.ensures ∙ ap natural c.get-in-len9-10.ensures.number) i ∷ (c.number-in-len9-11.ensures ∙ ap natural c.get-in-len9-11.ensures.number) i
    ∷ (c.number-in-len9-12.ensures ∙ ap natural c.get-in-len9-12.ensures.number) i ∷ (c.number-in-len9-13.ensures ∙ ap natural c.get-in-len9-13.ensures.number) i
    ∷ (c.number-in-len9-14.ensures ∙ ap natural c.get-in-len9-14.ensures.number) i ∷ (c.number-in-len9-15.ensures ∙ ap natural c.get-in-len9-15.ensures.number) i
    ∷ (c.number-in-len9-16.ensures ∙ ap natural c.get-in-len9-16.ensures.number) i ∷ (c.number-in-len9-17.ensures ∙ ap natural c.get-in-len9-17.ensures.number) i ∷ [])
    refl refl c.insert_several.ensures.writes c.insert_several.ensures.accepts
