use Rattle.std.proofs.Common.{refl}
use Rattle.planner_machine.specs.Statement.{decision_of}
use Rattle.planner_cli.specs.Outcomes.{answering}
use Rattle.planner_cli.proofs.ServeLemmas.{AnswersBoth, kept_so}
use Rattle.planner_cli.proofs.StoreLemmas.{answers_after, if_ok, read_answered, read_looks}
use Rattle.planner_cli.proofs.jobs.answer_job.Goals as goal

pub returns-in-None : goal.returns-in-None
returns-in-None g c =
    answers_after g.S.PlanStore _ _ _ _ (read_looks g.S.PlanStore _ _ _ _ c.kept_answer.ensures _ c.in_ok-answer.was) _
    refl c.perform.new.store c.perform.result
    (AnswersBoth c.args.number c.args.text (g.D.Decide.change c.args.statement)) c.perform.ensures

pub returns-in-Some : goal.returns-in-Some
returns-in-Some g c =
    let answer = c.in-Some.answer in
    read_answered g.S.PlanStore _ _ _ _ c.kept_answer.ensures _ c.in_ok-answer.was
    c.print_alone.result _ (λ honest. if_ok c.print_alone.result _ _ (λ printed prints. (
      answering answer,
      (
        answer,
        kept_so _ c.args.number c.args.text (decision_of (g.D.Decide.change c.args.statement))
            (g.S.PlanStore.content c.args.store.now) answer
            (rw (c.in_ok-answer.was, c.in-Some.is) at c.kept_answer.ensures.right honest),
        refl,
      ),
      prints,
    )) c.print_alone.ensures.prints) c.print_alone.ensures.err
