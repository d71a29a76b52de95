use Rattle.std.proofs.Common.{refl}
use Rattle.planner_cli.proofs.StoreLemmas.{read_gives, read_refused, unasked}
use Rattle.planner_cli.proofs.decisions.look_ahead.Goals as goal

pub returns-then-not-looks_ahead : goal.returns-then-not-looks_ahead
returns-then-not-looks_ahead g c = unasked g.S.PlanStore c.args.store.now _ _ _
    (λ honest. (c.looks_ahead.ensures c.if-not-looks_ahead.true (g.S.PlanStore.content c.args.store.now), refl)) tt

pub returns : goal.returns
returns g c =
    let reads = c.read_window.follows.holds-at-none in
    read_gives g.S.PlanStore _ _ _ _ reads _ c.in_ok-view.was _ _ _ (λ honest. (
      c.in_ok-ahead.ensures (g.S.PlanStore.content c.args.store.now) (rw c.in_ok-view.was at reads.right honest),
      refl,
    )) tt

pub returns-in_err-ahead : goal.returns-in_err-ahead
returns-in_err-ahead g c =
    read_refused g.S.PlanStore _ _ _ _ c.read_window.follows.holds-at-none _ c.in_ok-view.was
    c.from_residual-in_err-ahead.result _ _ c.from_residual-in_err-ahead.ensures.1
