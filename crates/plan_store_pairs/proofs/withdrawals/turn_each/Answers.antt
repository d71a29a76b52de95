use Rattle.std.proofs.Common.{◌≡◌, ◌+◌, ◌++◌, ◌∷◌, ◌∙◌, [], take, sym, ap, subst, arith}
use Rattle.std.proofs.lemmas.List.{take_all, take_more}
use Rattle.plan_store.specs.Views.{shown}
use Rattle.plan_store_pairs.specs.Gathering.{AddsEach}
use Rattle.plan_store_pairs.specs.Withdrawals.{IsBackPair, IsLostPair}
use Rattle.plan_store_pairs.proofs.EachLemmas.{each_more, each_none}
use Rattle.plan_store_pairs.proofs.withdrawals.turn_each.Goals as goal

pub loop-x-init : goal.loop-x-init
loop-x-init c = (
  each_none (IsLostPair (shown c.args.view.now).pairs c.args.row.now) c.args.removed.now.items,
  each_none (IsBackPair (shown c.args.view.now).pairs c.args.row.now c.args.before.now) c.args.added.now.items,
)

-- one more
pub loop-x-preserved : goal.loop-x-preserved
loop-x-preserved c =
    let Lost = IsLostPair (shown c.args.view.now).pairs c.args.row.now in
    let Back = IsBackPair (shown c.args.view.now).pairs c.args.row.now c.args.before.now in
    let xs = c.args.found.now in
    let x = c.x-item.result in
    let index = c.loop-x.x-index in
    let removed = c.turn.new.removed.items in
    let added = c.turn.new.added.items in
    let front : take (index + 1) xs ≡ take index xs ++ x ∷ [] = take_more xs index x c.loop-x-test.true
    ∙ ap (λ y. take index xs ++ y ∷ []) (sym c.x-item.is) in (
      subst (λ ys. AddsEach Lost ys c.args.removed.now.items removed) (sym front)
          (each_more Lost (take index xs) x c.args.removed.now.items c.loop-x.removed.items removed
          c.loop-x.invariant.0 c.in_ok-turn.ensures.removed),
      subst (λ ys. AddsEach Back ys c.args.added.now.items added) (sym front)
          (each_more Back (take index xs) x c.args.added.now.items c.loop-x.added.items added
          c.loop-x.invariant.1 c.in_ok-turn.ensures.added),
    )

-- all
pub returns-clause-removed : goal.returns-clause-removed
returns-clause-removed c =
    subst (λ ys. AddsEach (IsLostPair (shown c.args.view.now).pairs c.args.row.now) ys c.args.removed.now.items
    c.loop-x.removed.items) (take_all c.loop-x.x-index c.args.found.now (omega arith)) c.loop-x.invariant.0

pub returns-clause-added : goal.returns-clause-added
returns-clause-added c =
    subst (λ ys. AddsEach (IsBackPair (shown c.args.view.now).pairs c.args.row.now c.args.before.now) ys
    c.args.added.now.items c.loop-x.added.items) (take_all c.loop-x.x-index c.args.found.now (omega arith))
    c.loop-x.invariant.1
