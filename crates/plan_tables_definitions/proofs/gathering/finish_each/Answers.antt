use Rattle.std.proofs.Common.{◌+◌, take, sym, ap, subst, refl, ◌∙◌, ◌∷◌, ◌++◌, []}
use Rattle.std.specs.Prelude.{IfSome, IsSome}
use Rattle.std.proofs.lemmas.List.{take_more}
use Rattle.sqlite.specs.Order.{Row as Values}
use Rattle.plan_tables_definitions.specs.Gathering.{CanFinish, IsFinish, IsGathered, Paired}
use Rattle.plan_tables_definitions.proofs.GatherLemmas.{paired_push}
use Rattle.plan_tables_definitions.proofs.gathering.finish_each.Goals as goal

pub returns-in-None-clause-found : goal.returns-in-None-clause-found
returns-in-None-clause-found g c can =
    let (d, such, alike) = subst (CanFinish g.D.Draft.IsRow g.D.Draft.IsRead g.D.Draft.IsSound) (sym c.draft-item.is)
    (can c.loop-draft.draft-index c.draft-item.result c.loop-draft-test.true) in
    subst IsSome c.in-None.is (c.in_ok-definition.ensures.found d such alike)

pub loop-draft-preserved : goal.loop-draft-preserved
loop-draft-preserved g c =
    let drafts = c.args.drafts.now in
    let index = c.loop-draft.draft-index in
    let draft = c.draft-item.result in
    let paired = paired_push (λ name x d. IsGathered g.D.Draft.IsRow g.D.Draft.IsRead g.D.Draft.IsTold name x d)
    (take index drafts) c.loop-draft.entries.items draft (draft.0, c.in-Some.definition) refl
    (record {
      alike = subst (λ o. IfSome o (IsFinish g.D.Draft.IsRow g.D.Draft.IsRead draft.0 draft.1)) c.in-Some.is
          c.in_ok-definition.ensures.made;
      told = subst (λ o. IfSome o (λ d. (v : Values) → g.D.Draft.IsRead draft.0 draft.1 v → g.D.Draft.IsTold d))
          c.in-Some.is c.in_ok-definition.ensures.told;
    }) c.loop-draft.invariant in
    subst (Paired (λ name x d. IsGathered g.D.Draft.IsRow g.D.Draft.IsRead g.D.Draft.IsTold name x d)
    (take (index + 1) drafts))
    (sym c.in_ok-push-in-Some.ensures.items)
    (subst (λ l. Paired (λ name x d. IsGathered g.D.Draft.IsRow g.D.Draft.IsRead g.D.Draft.IsTold name x d) l
    (c.loop-draft.entries.items ++ (draft.0, c.in-Some.definition) ∷ []))
    (ap (λ r. take index drafts ++ r ∷ []) c.draft-item.is ∙ sym (take_more drafts index draft c.loop-draft-test.true))
    paired)
