use Rattle.std.proofs.Common.{◌≡◌, ◌+◌, ◌++◌, ◌∷◌, ◌∙◌, [], arith, ap, rules, sym, take, true, false}
use Rattle.std.proofs.lemmas.List.{append-nil, take_all, take_more}
use Rattle.planner_machine.specs.declared.content.Draft.{Draft}
use Rattle.long_term_plan.specs.Drafting.{drafts_from, is_from}
use Rattle.long_term_plan.proofs.DraftingLemmas.{compared, drafts_kept, drafts_left}
use Rattle.long_term_plan.proofs.drafts.push_drafts.Goals as goal
use Rattle.long_term_plan.proofs.drafts.push_drafts.Goals.{then-ge+in_ok-push, else-ge}

-- one more occurrence
pub loop-occurrence-preserved : goal.loop-occurrence-preserved
loop-occurrence-preserved c =
    let app = c.args.app.now in
    let first = c.args.first in
    let named = c.args.named.now in
    let x = c.occurrence-item.result in
    let index = c.loop-occurrence.occurrence-index in
    let front : take (index + 1) named ≡ take index named ++ x ∷ [] =
    take_more named index x c.loop-occurrence-test.true
    ∙ ap (λ y. take index named ++ y ∷ []) (sym c.occurrence-item.is) in
    let old = c.args.drafts.now.items in
    let so_far = c.loop-occurrence.drafts.items in
    let draft = c.draft_of-draft.result in
    let is = c.draft_of-draft.ensures in
    let more : c.if-ge.drafts.items ≡ old ++ drafts_from app first (take index named ++ x ∷ []) =
    elim c.if-ge.branch [
      | then-ge+in_ok-push w ↦
          let yes : c.ge.result ≡ true = search rules in
          rw (w.drafts-is, w.in_ok-push.ensures.items)
          (drafts_kept app first (take index named) x old so_far draft c.loop-occurrence.invariant is
          (sym (ap (λ (d : Draft). is_from first d) is) ∙ compared first draft.key.ia true (sym c.ge.ensures ∙ yes)))
      | else-ge w ↦
          let no : c.ge.result ≡ false = search rules in
          rw w.drafts-is
          (drafts_left app first (take index named) x old so_far c.loop-occurrence.invariant
          (sym (ap (λ (d : Draft). is_from first d) is) ∙ compared first draft.key.ia false (sym c.ge.ensures ∙ no)))
    ] in
    more ∙ ap (λ xs. old ++ drafts_from app first xs) (sym front)

pub loop-occurrence-init : goal.loop-occurrence-init
loop-occurrence-init c = sym (append-nil c.args.drafts.now.items)

pub returns : goal.returns
returns c =
    let whole = take_all c.loop-occurrence.occurrence-index c.args.named.now (omega arith) in
    c.loop-occurrence.invariant
    ∙ ap (λ xs. c.args.drafts.now.items ++ drafts_from c.args.app.now c.args.first xs) whole
