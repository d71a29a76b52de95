use Rattle.std.proofs.Common.{◌∙◌, ap, sym}
use Rattle.planner_machine.specs.Content.{Content}
use Rattle.planner_cli.proofs.StoreLemmas.{read_answered, read_refused}
use Rattle.planner_cli.proofs.days.answer_days.Goals as goal

pub returns : goal.returns
returns g c =
    let reads = c.read_window.follows.holds-at-none in
    read_answered g.S.PlanStore _ _ _ _ reads _ c.in_ok-view.was _ _ (λ honest.
    let shows = rw c.in_ok-view.was at reads.right honest in
    c.in_ok-days.ensures (g.S.PlanStore.content c.args.store.now)
    (sym (c.definitions.ensures ∙ ap (λ (x : Content). x.definitions) shows.is))) tt

pub returns-in_err-days : goal.returns-in_err-days
returns-in_err-days g c =
    let reads = c.read_window.follows.holds-at-none in
    read_refused g.S.PlanStore _ _ _ _ reads _ c.in_ok-view.was c.from_residual-in_err-days.result _ _
    c.from_residual-in_err-days.ensures.1
