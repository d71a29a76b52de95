use Rattle.std.proofs.Common.{◌≡◌, ◌+◌, ◌++◌, ◌∷◌, [], true, false, take, rules, sym, ap, subst, arith, ◌∙◌}
use Rattle.std.proofs.lemmas.Bool.{false≢true}
use Rattle.std.proofs.lemmas.List.{take_more, take_all}
use Rattle.external_dependencies.proofs.PairLemmas.{AreLeft, left_more, left_skip}
use Rattle.external_dependencies.proofs.pairs.Pairs.without.Goals as goal
use Rattle.external_dependencies.proofs.pairs.Pairs.without.Goals.{then-not-contains+in_ok-push, else-not-contains}

-- one more pair
pub loop-pair-preserved : goal.loop-pair-preserved
loop-pair-preserved c =
    let pairs = c.as_slice-pair-items.result.now in
    let others = c.args.others.now in
    let pair = c.pair-item.result in
    let index = c.loop-pair.pair-index in
    let front : take (index + 1) pairs ≡ take index pairs ++ pair ∷ [] =
    take_more pairs index pair c.loop-pair-test.true ∙ ap (λ x. take index pairs ++ x ∷ []) (sym c.pair-item.is) in
    let more : AreLeft (take index pairs ++ pair ∷ []) others c.if-not-contains.left.items =
    elim c.if-not-contains.branch [
      | then-not-contains+in_ok-push w ↦
          let absent : c.contains.result ≡ false = search rules in
          let pushed : w.push.new.self.items ≡ c.loop-pair.left.items ++ pair ∷ [] = w.in_ok-push.ensures.items in
          rw (w.left-is, pushed)
          (left_more (take index pairs) others c.loop-pair.left.items c.loop-pair.invariant pair
          (λ there. false≢true (sym absent ∙ c.contains.ensures.1 there)))
      | else-not-contains w ↦
          let present : c.contains.result ≡ true = search rules in
          rw w.left-is (left_skip (take index pairs) others c.loop-pair.left.items c.loop-pair.invariant pair
          (c.contains.ensures.0 present))
    ] in
    subst (λ ps. AreLeft ps others c.if-not-contains.left.items) (sym front) more

-- all pairs
pub returns : goal.returns
returns c pair =
    let items = c.as_slice-pair-items.result.now in
    let whole : take c.loop-pair.pair-index items ≡ c.args.self.now =
    take_all c.loop-pair.pair-index items (omega arith) ∙ c.as_slice-pair-items.ensures.value ∙ c.self.view_is in
    let is = subst (λ ps. AreLeft ps c.args.others.now c.loop-pair.left.items) whole c.loop-pair.invariant in
    let same = c.from_vec.ensures pair in
    ((λ here. (is pair).0 (same.0 here)), λ facts. same.1 ((is pair).1 facts))
