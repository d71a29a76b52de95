use Rattle.std.proofs.Common.{refl, subst}
use Rattle.plan_store.specs.Views.{Shows}
use Rattle.planner_cli.proofs.StoreLemmas.{read_gives, read_refused}
use Rattle.planner_cli.proofs.decisions.look.Goals as goal

pub returns : goal.returns
returns g c =
    let reads = c.read_window.follows.holds-at-none in
    let before = g.S.PlanStore.content c.args.store.now in
    read_gives g.S.PlanStore _ _ _ _ reads _ c.in_ok-view.was _ _ _ (λ honest. (
      c.in_ok-decide.ensures before (c.requires (reads.honest honest))
          (subst (λ n. Shows n c.in_ok-view.view before) c.need-need.ensures (rw c.in_ok-view.was at reads.right honest))
          (g.met.S.PlanStore.honest_is_sound c.args.store.now (reads.honest honest)),
      refl,
    )) tt

pub returns-in_err-decide : goal.returns-in_err-decide
returns-in_err-decide g c =
    read_refused g.S.PlanStore _ _ _ _ c.read_window.follows.holds-at-none _ c.in_ok-view.was
    c.from_residual-in_err-decide.result _ _ c.from_residual-in_err-decide.ensures.1
