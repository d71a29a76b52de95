use Rattle.std.proofs.Common.{◌≡◌, ◌+◌, ◌++◌, ◌∷◌, ◌∙◌, [], ap, arith, rules, subst, sym, take, true, false}
use Rattle.std.proofs.lemmas.Bool.{false≢true}
use Rattle.std.proofs.lemmas.List.{take_all, take_more}
use Rattle.plan_store.specs.Views.{with_hidden}
use Rattle.long_term_plan.specs.Drafting.{AreNew}
use Rattle.long_term_plan.proofs.DraftingLemmas.{new_more, new_none, new_skip}
use Rattle.long_term_plan.proofs.drafts.unmet_drafts.Goals as goal
use Rattle.long_term_plan.proofs.drafts.unmet_drafts.Goals.{then-is_unmet+in_ok-push, else-is_unmet}

pub loop-i-init : goal.loop-i-init
loop-i-init c h shows planned =
    new_none (with_hidden h c.args.view.now).sets c.new-new.result.items c.new-new.ensures.items

-- one more draft
pub loop-i-preserved : goal.loop-i-preserved
loop-i-preserved c h shows planned =
    let s = (with_hidden h c.args.view.now).sets in
    let named = c.args.named.now in
    let draft = c.index-named-i.result in
    let i = c.loop-i.i in
    let so_far = c.loop-i.invariant h shows planned in
    let tells = c.is_unmet.ensures h (shows draft (i, c.loop-i-test.true, sym c.index-named-i.is))
    (planned i draft c.loop-i-test.true (sym c.index-named-i.is)) in
    let front : take (i + 1) named ≡ take i named ++ draft ∷ [] =
    take_more named i draft c.loop-i-test.true ∙ ap (λ x. take i named ++ x ∷ []) (sym c.index-named-i.is) in
    let more : AreNew s (take i named ++ draft ∷ []) c.if-is_unmet.new.items = elim c.if-is_unmet.branch [
      | then-is_unmet+in_ok-push w ↦
          let yes : c.is_unmet.result ≡ true = search rules in
          rw (w.new-is, w.in_ok-push.ensures.items)
          (new_more s (take i named) c.loop-i.new.items draft so_far (tells.0 yes))
      | else-is_unmet w ↦
          let no : c.is_unmet.result ≡ false = search rules in
          rw w.new-is (new_skip s (take i named) c.loop-i.new.items draft so_far
          (λ key. false≢true (sym no ∙ tells.1 key)))
    ] in
    subst (λ ds. AreNew s ds c.if-is_unmet.new.items) (sym front) more

pub returns : goal.returns
returns c h shows planned =
    let whole = take_all c.loop-i.i c.args.named.now (omega arith) in
    subst (λ ds. AreNew (with_hidden h c.args.view.now).sets ds c.loop-i.new.items) whole
    (c.loop-i.invariant h shows planned)
