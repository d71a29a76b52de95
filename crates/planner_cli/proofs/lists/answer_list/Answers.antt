use Rattle.std.proofs.Common.{ap}
use Rattle.std.specs.Prelude.{option_copied}
use Rattle.planner_cli.proofs.ListLemmas.{list_cause, list_stopped, list_written}
use Rattle.planner_cli.proofs.lists.answer_list.Goals as goal

pub returns-in-Ok : goal.returns-in-Ok
returns-in-Ok g c =
    let lines = c.write_lines.ensures in
    list_written g.S.PlanStore c.args.store.now c.write_lines.new.store _ (g.W.Write.contents c.write_lines.new.writer) _ _
    c.args.what (option_copied c.args.app) c.requires
    lines.same lines.crash lines.counts lines.honest lines.clean c.in-Ok.rows c.in-Ok.ensures.all
    (λ honest clean. c.in-Ok.ensures.stays_honest honest clean tt)
    c.in-Ok.ensures.stays_whole c.print_alone-answered.result
    c.write_answer.result c.print_alone-answered.ensures.prints c.print_alone-answered.ensures.err
    c.write_answer.ensures.ok c.write_answer.ensures.err

pub returns-in-Err-Memory : goal.returns-in-Err-Memory
returns-in-Err-Memory g c =
    let lines = c.write_lines.ensures in
    let stopped = c.in-Err-Memory.ensures in
    list_stopped g.S.PlanStore c.args.store.now c.write_lines.new.store _
    (g.W.Write.contents c.write_lines.new.writer) _ _ c.args.what (option_copied c.args.app) c.requires
    lines.same lines.crash lines.counts lines.honest lines.clean c.in-Err-Memory.field-0 _
    (ap list_cause c.in-Err-Memory.field-0-is) stopped.part stopped.blames stopped.stays_honest

pub returns-in-Err-Device : goal.returns-in-Err-Device
returns-in-Err-Device g c =
    let lines = c.write_lines.ensures in
    let stopped = c.in-Err-Device.ensures in
    list_stopped g.S.PlanStore c.args.store.now c.write_lines.new.store _
    (g.W.Write.contents c.write_lines.new.writer) _ _ c.args.what (option_copied c.args.app) c.requires
    lines.same lines.crash lines.counts lines.honest lines.clean c.in-Err-Device.field-0 _
    (ap list_cause c.in-Err-Device.field-0-is) stopped.part stopped.blames stopped.stays_honest

pub returns-in-Err-Sink : goal.returns-in-Err-Sink
returns-in-Err-Sink g c =
    let lines = c.write_lines.ensures in
    let stopped = c.in-Err-Sink.ensures in
    list_stopped g.S.PlanStore c.args.store.now c.write_lines.new.store _
    (g.W.Write.contents c.write_lines.new.writer) _ _ c.args.what (option_copied c.args.app) c.requires
    lines.same lines.crash lines.counts lines.honest lines.clean c.in-Err-Sink.field-0 _
    (ap list_cause c.in-Err-Sink.field-0-is) stopped.part stopped.blames stopped.stays_honest
