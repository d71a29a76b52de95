use Rattle.std.proofs.Common.{refl, rules, None}
use Rattle.planner_cli_stream.specs.Statement.{Reads}
use Rattle.planner_cli_stream.specs.Items.{Alone}
use Rattle.planner_cli.proofs.StatementLemmas.{item_refused}
use Rattle.planner_cli.proofs.WriteLemmas.{wrote, wrote_nothing}
use Rattle.planner_cli.proofs.stream.answer_alone.Goals as goal

pub returns-in-Ok-None : goal.returns-in-Ok-None
returns-in-Ok-None g c =
    let reads : Reads c.args.line.now None = search rules in
    wrote g.S.PlanStore _ _ _ _ _ c.no_statement-answered.result c.write_answer.result
    (item_refused g.S.PlanStore _ c.no_statement-answered.result (Alone c.args.line.now) (None, reads, refl)
    c.no_statement-answered.ensures.prints c.no_statement-answered.ensures.err)
    c.write_answer.ensures.ok c.write_answer.ensures.err

pub returns-in-Err : goal.returns-in-Err
returns-in-Err g c = wrote_nothing g.S.PlanStore _ _ _
