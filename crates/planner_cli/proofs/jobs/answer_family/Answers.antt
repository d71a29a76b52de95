use Rattle.std.proofs.Common.{ap, subst, sym}
use Rattle.planner_machine.specs.Statement.{Change}
use Rattle.planner_cli.specs.Changes.{change_of}
use Rattle.planner_cli.specs.Stores.{AnswersBy}
use Rattle.planner_cli.proofs.ServeLemmas.{AnswersBoth}
use Rattle.planner_cli.proofs.jobs.answer_family.Goals as goal

pub returns-in-Plan : goal.returns-in-Plan
returns-in-Plan g c = subst
    (λ (change : Change). AnswersBy g.S.PlanStore c.args.store.now c.answer_job-in-Plan.new.store
    c.answer_job-in-Plan.result
    (AnswersBoth c.args.number c.args.text change (g.S.PlanStore.content c.args.store.now)))
    (sym (ap change_of c.in-Plan.is)) c.answer_job-in-Plan.ensures

pub returns-in-Daily : goal.returns-in-Daily
returns-in-Daily g c = subst
    (λ (change : Change). AnswersBy g.S.PlanStore c.args.store.now c.answer_job-in-Daily.new.store
    c.answer_job-in-Daily.result
    (AnswersBoth c.args.number c.args.text change (g.S.PlanStore.content c.args.store.now)))
    (sym (ap change_of c.in-Daily.is)) c.answer_job-in-Daily.ensures

pub returns-in-OnKey : goal.returns-in-OnKey
returns-in-OnKey g c = subst
    (λ (change : Change). AnswersBy g.S.PlanStore c.args.store.now c.answer_job-in-OnKey.new.store
    c.answer_job-in-OnKey.result
    (AnswersBoth c.args.number c.args.text change (g.S.PlanStore.content c.args.store.now)))
    (sym (ap change_of c.in-OnKey.is)) c.answer_job-in-OnKey.ensures
