use Rattle.std.proofs.Common.{◌≡◌, ◌↔◌, ◌+◌, ◌++◌, ◌∷◌, ◌∙◌, List, [], take, sym, ap, subst, arith}
use Rattle.std.specs.List.{Contains}
use Rattle.std.proofs.lemmas.List.{take_more, take_all}
use Rattle.external_dependencies.specs.Nearest.{IsNearestAnswer}
use Rattle.external_dependencies.specs.declared.links.Link.{Link}
use Rattle.planner_machine.specs.Pairs.{LiveAt}
use Rattle.plan_store.specs.Views.{with_hidden}
use Rattle.plan_store_pairs.proofs.GatherLemmas.{lists_link}
use Rattle.plan_store_pairs.proofs.RowPairLemmas.{ArePairsBy, by_all, by_more, by_none, by_skip}
use Rattle.plan_store_pairs.proofs.row_pairs.row_pairs_of.Goals as goal
use Rattle.plan_store_pairs.proofs.row_pairs.row_pairs_of.Goals.{in-Some+in_ok-push, in_default}

pub loop-link-init : goal.loop-link-init
loop-link-init c h sound part seen =
    subst (ArePairsBy (with_hidden h c.args.view.now).sets c.args.row.now []) (sym c.new-own.ensures.items)
    (by_none (with_hidden h c.args.view.now).sets c.args.row.now)

-- one more link
pub loop-link-preserved : goal.loop-link-preserved
loop-link-preserved c h sound part seen =
    let s = (with_hidden h c.args.view.now).sets in
    let row = c.args.row.now in
    let list = c.list-link-items.result.now in
    let link = c.link-item.result in
    let index = c.loop-link.link-index in
    let now = c.loop-link.own.items in
    let there : Contains list link = (index, c.loop-link-test.true, sym c.link-item.is) in
    let listed = subst (λ (links : List Link). (l : Link) → Contains list l
    ↔ (Contains links l × (l.app ≡ row.key.app))) c.in_force.ensures c.list-link-items.ensures.all in
    let answer = c.nearest.ensures h sound part
    (seen link.predecessor (lists_link (with_hidden h c.args.view.now) row.key.app list listed link there)) in
    let front : take (index + 1) list ≡ take index list ++ link ∷ [] = take_more list index link c.loop-link-test.true
    ∙ ap (λ x. take index list ++ x ∷ []) (sym c.link-item.is) in
    let more : ArePairsBy s row (take index list ++ link ∷ []) c.match-nearest.own.items = elim c.match-nearest.branch [
      | in-Some+in_ok-push w ↦
          let pushed : w.push.new.self.items ≡ now
          ++ (record { successor = row.serial; predecessor = w.in-Some.predecessor }) ∷ [] =
          w.in_ok-push.ensures.items in
          let found = subst (IsNearestAnswer (LiveAt s) row.key link.predecessor link.within) w.in-Some.is answer in
          rw (w.own-is, pushed) (by_more s row (take index list) now (c.loop-link.invariant h sound part seen) link
          w.in-Some.predecessor found)
      | in_default w ↦
          let found = subst (IsNearestAnswer (LiveAt s) row.key link.predecessor link.within) w.in_default.is answer in
          rw w.own-is (by_skip s row (take index list) now (c.loop-link.invariant h sound part seen) link found)
    ] in
    subst (λ ls. ArePairsBy s row ls c.match-nearest.own.items) (sym front) more

-- all links
pub returns : goal.returns
returns c h sound part seen pair =
    let content = with_hidden h c.args.view.now in
    let row = c.args.row.now in
    let list = c.list-link-items.result.now in
    let all = subst (λ ls. ArePairsBy content.sets row ls c.loop-link.own.items)
    (take_all c.loop-link.link-index list (omega arith)) (c.loop-link.invariant h sound part seen) in
    let listed = subst (λ (links : List Link). (link : Link) → Contains list link
    ↔ (Contains links link × (link.app ≡ row.key.app)))
    c.in_force.ensures c.list-link-items.ensures.all in
    let is = by_all content.sets row content.in_force list listed pair in
    let same = c.from_vec.ensures pair in
    ((λ there. is.0 ((all pair).0 (same.0 there))), λ at. same.1 ((all pair).1 (is.1 at)))
