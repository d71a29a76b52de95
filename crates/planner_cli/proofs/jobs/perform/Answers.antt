use Rattle.std.proofs.Common.{◌∙◌, ap}
use Rattle.planner_machine.specs.Content.{Content}
use Rattle.planner_cli.proofs.ServeLemmas.{AnswersBoth, left_sound, verdict_answers, verdict_fits}
use Rattle.planner_cli.proofs.StoreLemmas.{answers_after, answers_so, look_fails, look_right, look_same}
use Rattle.planner_cli.proofs.jobs.perform.Goals as goal

pub settle-requires-clause-fits : goal.settle-requires-clause-fits
settle-requires-clause-fits g c honest =
    verdict_fits (g.D.Decide.change c.args.statement) c.in_ok-verdict.verdict _
    (look_right g.S.PlanStore _ _ _ _ c.verdict_over.ensures _ c.in_ok-verdict.was honest)

pub settle-requires-clause-new : goal.settle-requires-clause-new
settle-requires-clause-new g c honest =
    let looks = c.verdict_over.ensures in
    ap (λ (x : Content). x.jobs c.args.number)
    (look_same g.S.PlanStore _ _ _ _ looks _ c.in_ok-verdict.was honest) ∙ c.requires.new (looks.honest honest)

pub settle-requires-clause-sound : goal.settle-requires-clause-sound
settle-requires-clause-sound g c honest =
    left_sound c.streams.ensures.sound c.args.number c.args.text (g.D.Decide.change c.args.statement)
    c.in_ok-verdict.verdict _ c.requires.numbered c.requires.well_formed
    (look_right g.S.PlanStore _ _ _ _ c.verdict_over.ensures _ c.in_ok-verdict.was honest)
    (settle-requires-clause-new g c honest)
    (g.met.S.PlanStore.honest_is_sound c.verdict_over.new.store honest)

pub returns : goal.returns
returns g c =
    let change = g.D.Decide.change c.args.statement in
    let looks = c.verdict_over.ensures in
    answers_after g.S.PlanStore _ _ _ _ looks _ c.in_ok-verdict.was c.settle.new.store c.settle.result
    (AnswersBoth c.args.number c.args.text change)
    (answers_so g.S.PlanStore _ _ _ _ _ (λ honest reply c'.
    verdict_answers c.args.number c.args.text change c.in_ok-verdict.verdict _
    (look_right g.S.PlanStore _ _ _ _ looks _ c.in_ok-verdict.was honest)
    (ap (λ (x : Content). x.jobs c.args.number)
    (look_same g.S.PlanStore _ _ _ _ looks _ c.in_ok-verdict.was honest) ∙ c.requires.new (looks.honest honest)) reply c')
    c.settle.ensures)

pub returns-in_err-verdict : goal.returns-in_err-verdict
returns-in_err-verdict g c =
    look_fails g.S.PlanStore _ _ _ _ c.verdict_over.ensures _ c.in_err-verdict.was c.from_residual.result _ _
    c.from_residual.ensures.1
