use Rattle.std.proofs.Common.{◌≡◌, ◌+◌, ◌++◌, ◌∷◌, ◌∙◌, [], take, sym, ap, subst, arith}
use Rattle.std.specs.List.{Contains}
use Rattle.std.proofs.lemmas.List.{take_all, take_more}
use Rattle.plan_store.specs.Views.{with_hidden}
use Rattle.plan_store_pairs.specs.Additions.{IsLeftPair, IsTurnedPair}
use Rattle.plan_store_pairs.specs.Gathering.{AddsEach}
use Rattle.plan_store_pairs.proofs.EachLemmas.{each_more, each_none}
use Rattle.plan_store_pairs.proofs.additions.turn_each.Goals as goal

pub loop-x-init : goal.loop-x-init
loop-x-init c h sound sees once are =
    let content = with_hidden h c.args.view.now in
    let row = c.args.row.now in (
      each_none (IsLeftPair content row) c.args.removed.now.items,
      each_none (IsTurnedPair content row) c.args.added.now.items,
    )

-- one more
pub loop-x-preserved : goal.loop-x-preserved
loop-x-preserved c h sound sees once are =
    let content = with_hidden h c.args.view.now in
    let row = c.args.row.now in
    let xs = c.args.found.now in
    let x = c.x-item.result in
    let index = c.loop-x.x-index in
    let there : Contains xs x = (index, c.loop-x-test.true, sym c.x-item.is) in
    let so_far = c.loop-x.invariant h sound sees once are in
    let one = c.in_ok-turn.ensures h sound sees once (are x there) in
    let removed = c.turn.new.removed.items in
    let added = c.turn.new.added.items in
    let front : take (index + 1) xs ≡ take index xs ++ x ∷ [] = take_more xs index x c.loop-x-test.true
    ∙ ap (λ y. take index xs ++ y ∷ []) (sym c.x-item.is) in (
      subst (λ ys. AddsEach (IsLeftPair content row) ys c.args.removed.now.items removed) (sym front)
          (each_more (IsLeftPair content row) (take index xs) x c.args.removed.now.items c.loop-x.removed.items removed
          so_far.0 one.0),
      subst (λ ys. AddsEach (IsTurnedPair content row) ys c.args.added.now.items added) (sym front)
          (each_more (IsTurnedPair content row) (take index xs) x c.args.added.now.items c.loop-x.added.items added
          so_far.1 one.1),
    )

-- all
pub returns : goal.returns
returns c h sound sees once are =
    let content = with_hidden h c.args.view.now in
    let row = c.args.row.now in
    let so_far = c.loop-x.invariant h sound sees once are in
    let all = take_all c.loop-x.x-index c.args.found.now (omega arith) in (
      subst (λ ys. AddsEach (IsLeftPair content row) ys c.args.removed.now.items c.loop-x.removed.items) all so_far.0,
      subst (λ ys. AddsEach (IsTurnedPair content row) ys c.args.added.now.items c.loop-x.added.items) all so_far.1,
    )
