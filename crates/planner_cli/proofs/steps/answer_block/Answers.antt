use Rattle.std.proofs.Common.{◌≡◌, ap, rules, None}
use Rattle.planner_cli_stream.specs.Items.{WithBlock}
use Rattle.planner_cli_stream.specs.Pages.{block_shown}
use Rattle.planner_cli.specs.Requests.{asked_with}
use Rattle.planner_cli.proofs.StatementLemmas.{asks_with, item_refused, item_served}
use Rattle.planner_cli.proofs.steps.answer_block.Goals as goal

pub returns-in-Define : goal.returns-in-Define
returns-in-Define g c =
    let block = block_shown c.args.block in
    item_served g.S.PlanStore _ _ c.answer_define.result (WithBlock c.args.line.now block) _
    (asks_with c.args.line.now block c.args.statement.now _ c.requires.reads
    (ap (asked_with c.args.line.now block) c.in-Define.is))
    (rw (c.from-number.ensures, c.number.ensures.value, c.definitions_kind-kind.ensures) at c.answer_define.ensures)

pub returns-in-Change : goal.returns-in-Change
returns-in-Change g c =
    let block = block_shown c.args.block in
    let none : asked_with c.args.line.now block c.args.statement.now ≡ None = search rules in
    item_refused g.S.PlanStore _ c.no_statement.result (WithBlock c.args.line.now block)
    (asks_with c.args.line.now block c.args.statement.now None c.requires.reads none)
    c.no_statement.ensures.prints c.no_statement.ensures.err
