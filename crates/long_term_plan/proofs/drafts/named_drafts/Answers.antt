use Rattle.std.proofs.Common.{◌≡◌, ◌+◌, ◌++◌, ◌∷◌, ◌∙◌, [], List, ℕ, arith, ap, subst, sym, take}
use Rattle.std.proofs.lemmas.List.{take_all, take_more}
use Rattle.long_term_plan.specs.Drafting.{AreCollected}
use Rattle.long_term_plan.proofs.DraftingLemmas.{collected_more, collected_none, named_are}
use Rattle.long_term_plan.proofs.PairwiseLemmas.{front_lacks}
use Rattle.long_term_plan.proofs.drafts.named_drafts.Goals as goal

pub loop-app-init : goal.loop-app-init
loop-app-init c = (
  c.new-indexes.ensures.indexes c.args.all.now,
  collected_none c.args.all.now c.args.first c.args.last c.new-drafts.result.items c.new-drafts.ensures.items,
)

-- one more application
pub loop-app-preserved : goal.loop-app-preserved
loop-app-preserved c =
    let all = c.args.all.now in
    let apps = c.args.apps.now in
    let app = c.app-item.result in
    let index = c.loop-app.app-index in
    let front : take (index + 1) apps ≡ take index apps ++ app ∷ [] =
    take_more apps index app c.loop-app-test.true ∙ ap (λ x. take index apps ++ x ∷ []) (sym c.app-item.is) in
    let other = front_lacks apps c.requires.apart index app c.loop-app-test.true (sym c.app-item.is) in (
      c.add_drafts.ensures.indexes,
      subst (λ (some : List (List ℕ)). AreCollected all some c.args.first c.args.last c.add_drafts.new.drafts.items)
          (sym front)
          (collected_more all (take index apps) app c.args.first c.args.last c.loop-app.drafts.items
          c.add_drafts.new.drafts.items c.loop-app.invariant.1 c.in_ok-add_drafts.ensures.added other),
    )

pub returns : goal.returns
returns c are =
    let all = c.args.all.now in
    let whole = take_all c.loop-app.app-index c.args.apps.now (omega arith) in
    let collected = subst (λ (some : List (List ℕ)).
    AreCollected all some c.args.first c.args.last c.loop-app.drafts.items) whole c.loop-app.invariant.1 in
    named_are all are c.args.apps.now c.args.first c.args.last c.loop-app.drafts.items c.sort_drafts.new.drafts.items
    collected (c.sort_drafts.ensures.in_order (collected.apart are)) c.sort_drafts.ensures.same
