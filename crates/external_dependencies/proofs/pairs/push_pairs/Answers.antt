use Rattle.std.proofs.Common.{◌≡◌, ◌+◌, ◌++◌, ◌∷◌, [], take, sym, ap, subst, arith, ◌∙◌}
use Rattle.std.proofs.lemmas.List.{take_more, take_all}
use Rattle.external_dependencies.proofs.PairLemmas.{ArePairs, pairs_more, pairs_skip}
use Rattle.external_dependencies.proofs.pairs.push_pairs.Goals as goal
use Rattle.external_dependencies.proofs.pairs.push_pairs.Goals.{in-Some+in_ok-push, in_default}

-- one more link
pub loop-link-preserved : goal.loop-link-preserved
loop-link-preserved c =
    let list = c.args.list.now in
    let link = c.link-item.result in
    let index = c.loop-link.link-index in
    let old = c.args.pairs.now.items in
    let now = c.loop-link.pairs.items in
    let front : take (index + 1) list ≡ take index list ++ link ∷ [] =
    take_more list index link c.loop-link-test.true ∙ ap (λ x. take index list ++ x ∷ []) (sym c.link-item.is) in
    let more : ArePairs c.args.live.now c.args.row.now
    (take index list ++ link ∷ []) old c.match-nearest.pairs.items = elim c.match-nearest.branch [
      | in-Some+in_ok-push w ↦
          let pushed : w.push.new.self.items ≡ now ++ record {
            successor = c.args.row.now.serial;
            predecessor = w.in-Some.predecessor;
          } ∷ [] = w.in_ok-push.ensures.items in
          rw (w.pairs-is, pushed) (pairs_more c.args.live.now c.args.row.now
          (take index list) old now c.loop-link.invariant link w.in-Some.predecessor w.in-Some.ensures)
      | in_default w ↦ rw w.pairs-is (pairs_skip c.args.live.now c.args.row.now
          (take index list) old now c.loop-link.invariant link w.in_default.ensures)
    ] in
    subst (λ ls. ArePairs c.args.live.now c.args.row.now ls old c.match-nearest.pairs.items) (sym front) more

-- all links
pub returns : goal.returns
returns c = subst (λ ls. ArePairs c.args.live.now c.args.row.now ls c.args.pairs.now.items c.loop-link.pairs.items)
    (take_all c.loop-link.link-index c.args.list.now (omega arith)) c.loop-link.invariant
