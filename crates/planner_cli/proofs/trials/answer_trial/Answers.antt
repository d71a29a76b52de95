use Rattle.std.proofs.Common.{[], Err, Ok}
use Rattle.planner_machine.specs.Statement.{Trial}
use Rattle.planner_cli.specs.Outcomes.{answering}
use Rattle.planner_cli.specs.Steps.{Serves}
use Rattle.planner_cli.proofs.StoreLemmas.{answers_after, look_as, look_fails, refused_so, unasked}
use Rattle.planner_cli.proofs.TrialServes.{trial_refused}
use Rattle.planner_cli.proofs.trials.answer_trial.Goals as goal

pub answer_seen-requires : goal.answer_seen-requires
answer_seen-requires g c honest =
    look_as g.S.PlanStore _ _ _ _ c.look_ahead.ensures _ c.in_ok-end.was (Ok c.in-Ok.end) c.in-Ok.is honest

pub returns-in-Ok : goal.returns-in-Ok
returns-in-Ok g c =
    answers_after g.S.PlanStore _ _ _ _ c.look_ahead.ensures _ c.in_ok-end.was
    c.answer_seen.new.store c.answer_seen.result
    (Serves (Trial (g.T.Decide.change c.args.statement.now))) c.answer_seen.ensures

pub returns-in_ok-refused-in-Err : goal.returns-in_ok-refused-in-Err
returns-in_ok-refused-in-Err g c =
    let change = g.T.Decide.change c.args.statement.now in
    let refusal = c.in-Err.refusal in
    answers_after g.S.PlanStore _ _ _ _ c.look_ahead.ensures _ c.in_ok-end.was _ _ (Serves (Trial change))
    (unasked g.S.PlanStore _ _ _ _ (λ honest. record {
      reply = answering (Err refusal);
      gives = trial_refused change _ refusal
          (look_as g.S.PlanStore _ _ _ _ c.look_ahead.ensures _ c.in_ok-end.was (Err refusal) c.in-Err.is honest);
      prints = c.in_ok-refused-in-Err.ensures [] c.new.ensures.items;
    }) tt)

pub returns-in_err-end : goal.returns-in_err-end
returns-in_err-end g c =
    look_fails g.S.PlanStore _ _ _ _ c.look_ahead.ensures _ c.in_err-end.was c.from_residual.result _ _
    c.from_residual.ensures.1

pub returns-in_err-refused-in-Err : goal.returns-in_err-refused-in-Err
returns-in_err-refused-in-Err g c =
    let change = g.T.Decide.change c.args.statement.now in
    answers_after g.S.PlanStore _ _ _ _ c.look_ahead.ensures _ c.in_ok-end.was _ _ (Serves (Trial change))
    (refused_so g.S.PlanStore _ c.from_residual-in_err-refused-in-Err.result _
    c.from_residual-in_err-refused-in-Err.ensures.1)
