use Rattle.std.proofs.Common.{◌≡◌, ◌+◌, ◌++◌, ◌∷◌, ◌∙◌, List, [], take, sym, ap, subst, arith}
use Rattle.std.proofs.lemmas.List.{take_all, take_more}
use Rattle.external_dependencies.specs.declared.pairs.Pair.{Pair}
use Rattle.plan_store.specs.AppPairs.{AreLacking, with_others}
use Rattle.plan_store.specs.Contents.{content_of}
use Rattle.plan_store.proofs.LackLemmas.{lacks_more, lacks_none, lacks_other}
use Rattle.plan_store.proofs.contents.Content.lacking_ends.Goals as goal
use Rattle.plan_store.proofs.contents.Content.lacking_ends.Goals.{else-lacks_end, then-lacks_end+in_ok-push}

pub loop-pair-init : goal.loop-pair-init
loop-pair-init c are =
    rw c.new-serials.ensures.items (lacks_none c.args.app.now (with_others c.args.others.now (content_of c.args.self.now).sets))

-- one more
pub loop-pair-preserved : goal.loop-pair-preserved
loop-pair-preserved c are =
    let seen = with_others c.args.others.now (content_of c.args.self.now).sets in
    let app = c.args.app.now in
    let pairs = c.args.pairs.now in
    let one = c.pair-item.result in
    let index = c.loop-pair.pair-index in
    let front : take (index + 1) pairs ≡ take index pairs ++ one ∷ [] = take_more pairs index one c.loop-pair-test.true
    ∙ ap (λ y. take index pairs ++ y ∷ []) (sym c.pair-item.is) in
    let so_far = c.loop-pair.invariant are in
    subst (λ (l : List Pair). AreLacking app seen l c.if-lacks_end.serials.items) (sym front)
    (elim c.if-lacks_end.branch [
      | then-lacks_end+in_ok-push w ↦ rw (w.serials-is, w.in_ok-push.ensures.items) (lacks_more app seen
          (take index pairs) one c.loop-pair.serials.items so_far (sym (c.lacks_end.ensures are) ∙ w.if-lacks_end.true))
      | else-lacks_end w ↦ rw w.serials-is (lacks_other app seen (take index pairs) one c.loop-pair.serials.items so_far
          (sym (c.lacks_end.ensures are) ∙ w.if-lacks_end.false))
    ])

-- all
pub returns : goal.returns
returns c are = subst (λ (l : List Pair). AreLacking c.args.app.now (with_others c.args.others.now
    (content_of c.args.self.now).sets) l c.loop-pair.serials.items)
    (take_all c.loop-pair.pair-index c.args.pairs.now (omega arith)) (c.loop-pair.invariant are)
