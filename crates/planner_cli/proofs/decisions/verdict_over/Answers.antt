use Rattle.std.proofs.Common.{◌≡◌, Err, Ok, refl}
use Rattle.planner_machine.specs.Statement.{decision_of}
use Rattle.plan_store.specs.Verdicts.{VerdictIs}
use Rattle.planner_cli.proofs.StoreLemmas.{after_look, look_as, unasked}
use Rattle.planner_cli.proofs.decisions.verdict_over.Goals as goal

pub look-requires : goal.look-requires
look-requires g c honest =
    look_as g.S.PlanStore _ _ _ _ c.look_ahead.ensures _ c.in_ok-end.was (Ok c.in-Ok.end) c.in-Ok.is honest

pub returns-in-Ok : goal.returns-in-Ok
returns-in-Ok g c =
    after_look g.S.PlanStore _ _ _ _ c.look_ahead.ensures _ c.in_ok-end.was c.look.new.store c.look.result
    (λ b verdict c'. VerdictIs (decision_of (g.D.Decide.change c.args.statement)) c' verdict × (c' ≡ b)) (λ b c'. ⊥)
    c.look.ensures

pub returns-in-Err : goal.returns-in-Err
returns-in-Err g c =
    after_look g.S.PlanStore _ _ _ _ c.look_ahead.ensures _ c.in_ok-end.was _ _
    (λ b verdict c'. VerdictIs (decision_of (g.D.Decide.change c.args.statement)) c' verdict × (c' ≡ b)) (λ b c'. ⊥)
    (unasked g.S.PlanStore _ _ _ _ (λ honest. (
      look_as g.S.PlanStore _ _ _ _ c.look_ahead.ensures _ c.in_ok-end.was (Err c.in-Err.refusal) c.in-Err.is
          honest,
      refl,
    )) tt)
