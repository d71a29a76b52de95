use Rattle.std.proofs.Common.{subst}
use Rattle.plan_store.specs.Views.{Shows}
use Rattle.planner_cli.proofs.StoreLemmas.{read_answered, read_refused}
use Rattle.planner_cli.proofs.trials.answer_seen.Goals as goal

pub returns : goal.returns
returns g c =
    let reads = c.read_window.follows.holds-at-none in
    let before = g.S.PlanStore.content c.args.store.now in
    read_answered g.S.PlanStore _ _ _ _ reads _ c.in_ok-view.was _ _ (λ honest.
    c.in_ok-print_trial.ensures before (c.requires (reads.honest honest))
    (subst (λ n. Shows n c.in_ok-view.view before) c.need-need.ensures (rw c.in_ok-view.was at reads.right honest))
    (g.met.S.PlanStore.honest_is_sound c.args.store.now (reads.honest honest))) tt

pub returns-in_err-print_trial : goal.returns-in_err-print_trial
returns-in_err-print_trial g c =
    read_refused g.S.PlanStore _ _ _ _ c.read_window.follows.holds-at-none _ c.in_ok-view.was
    c.from_residual-in_err-print_trial.result _ _ c.from_residual-in_err-print_trial.ensures.1
