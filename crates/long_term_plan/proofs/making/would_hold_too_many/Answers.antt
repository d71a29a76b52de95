use Rattle.std.proofs.Common.{arith, inl, inr}
use Rattle.std.proofs.lemmas.Bool.{lt-ltb, ltb-true}
use Rattle.plan_store.specs.Views.{with_hidden}
use Rattle.long_term_plan.proofs.MakingLemmas.{planned_then}
use Rattle.long_term_plan.proofs.making.would_hold_too_many.Goals as goal

pub returns-then-rows-gt-MOST_PLANNED_ROWS-clause-too_many : goal.returns-then-rows-gt-MOST_PLANNED_ROWS-clause-too_many
returns-then-rows-gt-MOST_PLANNED_ROWS-clause-too_many c h sound =
    let planned = planned_then (with_hidden h c.args.view.now) sound c.args.bounds.now c.args.new.now in
    let ltp = c.ltp.ensures.count h sound.serials in
    let cp = c.cp.ensures.count h sound.serials in
    ((λ _. inl (omega (arith, planned, ltp, cp))), λ _. lt-ltb _ _ c.if-rows-gt-MOST_PLANNED_ROWS.true)

pub returns-else-rows-gt-MOST_PLANNED_ROWS-clause-too_many : goal.returns-else-rows-gt-MOST_PLANNED_ROWS-clause-too_many
returns-else-rows-gt-MOST_PLANNED_ROWS-clause-too_many c h sound =
    let planned = planned_then (with_hidden h c.args.view.now) sound c.args.bounds.now c.args.new.now in
    let ltp = c.ltp.ensures.count h sound.serials in
    let cp = c.cp.ensures.count h sound.serials in (
      (λ over. let past = ltb-true _ _ over in inr (omega (arith, past))),
      λ over. lt-ltb _ _ (elim over [
        | inl rows ↦ absurd (omega (arith, rows, planned, ltp, cp))
        | inr issued ↦ omega (arith, issued)
      ]),
    )
