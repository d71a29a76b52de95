use Rattle.std.proofs.Common.{◌≡◌, ◌+◌, ◌++◌, ◌∷◌, ◌∙◌, [], ap, arith, rules, subst, sym, take, true, false}
use Rattle.std.proofs.lemmas.Bool.{false≢true}
use Rattle.std.proofs.lemmas.List.{take_all, take_more}
use Rattle.plan_store.specs.Views.{with_hidden}
use Rattle.long_term_plan.specs.Drafting.{AreNew}
use Rattle.long_term_plan.proofs.DraftingLemmas.{new_more, new_none, new_skip}
use Rattle.long_term_plan.proofs.drafts.new_drafts.Goals as goal
use Rattle.long_term_plan.proofs.drafts.new_drafts.Goals.{then-is_new+in_ok-push, else-is_new}

pub loop-draft-init : goal.loop-draft-init
loop-draft-init c h shows = new_none (with_hidden h c.args.view.now).sets c.new-new.result.items c.new-new.ensures.items

-- one more draft
pub loop-draft-preserved : goal.loop-draft-preserved
loop-draft-preserved c h shows =
    let s = (with_hidden h c.args.view.now).sets in
    let named = c.args.named.now in
    let draft = c.draft-item.result in
    let index = c.loop-draft.draft-index in
    let so_far = c.loop-draft.invariant h shows in
    let tells = c.is_new.ensures h (shows draft (index, c.loop-draft-test.true, sym c.draft-item.is)) in
    let front : take (index + 1) named ≡ take index named ++ draft ∷ [] =
    take_more named index draft c.loop-draft-test.true ∙ ap (λ x. take index named ++ x ∷ []) (sym c.draft-item.is) in
    let more : AreNew s (take index named ++ draft ∷ []) c.if-is_new.new.items = elim c.if-is_new.branch [
      | then-is_new+in_ok-push w ↦
          let yes : c.is_new.result ≡ true = search rules in
          rw (w.new-is, w.in_ok-push.ensures.items)
          (new_more s (take index named) c.loop-draft.new.items draft so_far (tells.0 yes))
      | else-is_new w ↦
          let no : c.is_new.result ≡ false = search rules in
          rw w.new-is (new_skip s (take index named) c.loop-draft.new.items draft so_far
          (λ key. false≢true (sym no ∙ tells.1 key)))
    ] in
    subst (λ ds. AreNew s ds c.if-is_new.new.items) (sym front) more

pub returns : goal.returns
returns c h shows =
    let whole = take_all c.loop-draft.draft-index c.args.named.now (omega arith) in
    subst (λ ds. AreNew (with_hidden h c.args.view.now).sets ds c.loop-draft.new.items) whole
    (c.loop-draft.invariant h shows)
