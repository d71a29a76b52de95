use Rattle.std.proofs.Common.{ap}
use Rattle.planner_cli.specs.Requests.{asked_alone}
use Rattle.planner_cli.proofs.StatementLemmas.{asks_alone, line_served}
use Rattle.planner_cli.proofs.stream.answer_statement.Goals as goal

pub returns-in-Define : goal.returns-in-Define
returns-in-Define g c =
    line_served g.S.PlanStore _ _ _ _ c.args.line.now c.args.statement.now _ c.answer_define-answered.result
    c.write_answer.result c.requires (ap (asked_alone c.args.line.now) c.in-Define.is)
    (rw (c.from-number.ensures, c.number.ensures.value, c.definitions_kind-kind.ensures) at
    c.answer_define-answered.ensures)
    c.write_answer.ensures.ok c.write_answer.ensures.err

pub returns-in-Change : goal.returns-in-Change
returns-in-Change g c =
    line_served g.S.PlanStore _ _ _ _ c.args.line.now c.args.statement.now _ c.answer_change-answered.result
    c.write_answer-in-Change.result c.requires (ap (asked_alone c.args.line.now) c.in-Change.is)
    (rw (c.from-number-in-Change.ensures, c.number-in-Change.ensures.value) at c.answer_change-answered.ensures)
    c.write_answer-in-Change.ensures.ok c.write_answer-in-Change.ensures.err

pub returns-in-Days : goal.returns-in-Days
returns-in-Days g c =
    line_served g.S.PlanStore _ _ _ _ c.args.line.now c.args.statement.now _ c.answer_days-answered.result
    c.write_answer-in-Days.result c.requires (ap (asked_alone c.args.line.now) c.in-Days.is)
    c.answer_days-answered.ensures c.write_answer-in-Days.ensures.ok c.write_answer-in-Days.ensures.err

pub returns-in-PlanTrial : goal.returns-in-PlanTrial
returns-in-PlanTrial g c =
    line_served g.S.PlanStore _ _ _ _ c.args.line.now c.args.statement.now _ c.answer_trial-answered.result
    c.write_answer-in-PlanTrial.result c.requires (ap (asked_alone c.args.line.now) c.in-PlanTrial.is)
    c.answer_trial-answered.ensures c.write_answer-in-PlanTrial.ensures.ok
    c.write_answer-in-PlanTrial.ensures.err

pub returns-in-DailyTrial : goal.returns-in-DailyTrial
returns-in-DailyTrial g c =
    line_served g.S.PlanStore _ _ _ _ c.args.line.now c.args.statement.now _ c.answer_trial-answered-in-DailyTrial.result
    c.write_answer-in-DailyTrial.result c.requires (ap (asked_alone c.args.line.now) c.in-DailyTrial.is)
    c.answer_trial-answered-in-DailyTrial.ensures c.write_answer-in-DailyTrial.ensures.ok
    c.write_answer-in-DailyTrial.ensures.err

pub answer_list-requires : goal.answer_list-requires
answer_list-requires g c =
    rw c.what_of.ensures (asks_alone c.args.line.now c.args.statement.now _ c.requires
    (ap (asked_alone c.args.line.now) c.in-List.is))

pub answer_list-requires-in-ListApp : goal.answer_list-requires-in-ListApp
answer_list-requires-in-ListApp g c =
    rw c.what_of-in-ListApp.ensures (asks_alone c.args.line.now c.args.statement.now _ c.requires
    (ap (asked_alone c.args.line.now) c.in-ListApp.is))
