use Rattle.std.proofs.Common.{◌≡◌, Err, refl, rules, inl, inr, subst, sym}
use Rattle.plan_store.specs.declared.stores.StoreFault.TheVariants.{Memory}
use Rattle.planner_machine.specs.Sound.{IsSound}
use Rattle.planner_cli.specs.Outcomes.{answering}
use Rattle.planner_cli.specs.Replies.{Prints}
use Rattle.planner_cli.specs.Stores.{AnswersBy}
use Rattle.planner_cli.specs.Verdicts.{answer_in, job_left}
use Rattle.planner_cli.proofs.ServeLemmas.{settled}
use Rattle.planner_cli.proofs.StoreLemmas.{made, not_made, unasked}
use Rattle.planner_cli.proofs.jobs.settle.Goals as goal

pub apply-requires-clause-sound : goal.apply-requires-clause-sound
apply-requires-clause-sound g c honest =
    let verdict = c.args.verdict in
    let parts = c.parts_of-change.ensures in
    let before = g.S.PlanStore.content c.args.store.now in
    let fits = c.requires.fits honest in
    subst IsSound (sym (settled c.args.number c.args.text verdict c.parts_of-change.result.0
    c.parts_of-change.result.1 before _ fits parts.answer (parts.leaves before fits) refl))
    (c.requires.sound honest)

pub returns-in_err-printed : goal.returns-in_err-printed
returns-in_err-printed g c =
    let refused : c.from_residual.result ≡ Err Memory = search rules in
    subst (λ r. AnswersBy g.S.PlanStore c.args.store.now c.args.store.now r (λ reply c'.
    (c' ≡ job_left c.args.number c.args.text c.args.verdict (g.S.PlanStore.content c.args.store.now))
    × (reply ≡ answering (answer_in c.args.verdict)))) (sym refused)
    (unasked g.S.PlanStore c.args.store.now (Err Memory) _ _ (λ honest. tt) refl)

pub returns-in-Ok : goal.returns-in-Ok
returns-in-Ok g c =
    let verdict = c.args.verdict in
    let parts = c.parts_of-change.ensures in
    let before = g.S.PlanStore.content c.args.store.now in
    let printed = c.in_ok-printed.printed in
    made g.S.PlanStore _ _ printed (answering (answer_in verdict)) _ (λ honest.
    let fits = c.requires.fits (c.apply.ensures.honest honest) in (
      settled c.args.number c.args.text verdict c.parts_of-change.result.0 c.parts_of-change.result.1 before _ fits
          parts.answer (parts.leaves before fits) (c.in-Ok.ensures.done honest),
      refl,
    ))
    (subst (λ a. Prints (answering a) printed.text.items printed.is_accepted) parts.answer c.in_ok-printed.ensures.prints)
    c.in-Ok.ensures.settled c.apply.ensures.counts c.apply.ensures.honest c.apply.ensures.clean
    (λ honest clean. c.in-Ok.ensures.stays_honest honest clean tt)
    c.in-Ok.ensures.stays_whole

pub returns-in-Err : goal.returns-in-Err
returns-in-Err g c =
    let verdict = c.args.verdict in
    let parts = c.parts_of-change.ensures in
    let before = g.S.PlanStore.content c.args.store.now in
    not_made g.S.PlanStore _ _ c.in-Err.fault _ c.in-Err.ensures.unchanged (λ honest.
    let fits = c.requires.fits (c.apply.ensures.honest honest) in
    elim (c.in-Err.ensures.whole honest) [
      | inl same ↦ inl same
      | inr did ↦ inr (
        answering (answer_in verdict),
        (
          settled c.args.number c.args.text verdict c.parts_of-change.result.0 c.parts_of-change.result.1 before _ fits
              parts.answer (parts.leaves before fits) did,
          refl,
        ),
      )
    ])
    (λ honest own c' leaves.
    let fits = c.requires.fits honest in
    elim (c.apply.ensures.crash honest c' leaves) [
      | inl still ↦ inl (own c' still)
      | inr did ↦ inr (
        answering (answer_in verdict),
        (
          settled c.args.number c.args.text verdict c.parts_of-change.result.0 c.parts_of-change.result.1 before _ fits
              parts.answer (parts.leaves before fits) did,
          refl,
        ),
      )
    ])
    c.in-Err.ensures.blames c.apply.ensures.counts c.apply.ensures.honest c.apply.ensures.clean
    c.in-Err.ensures.stays_honest
