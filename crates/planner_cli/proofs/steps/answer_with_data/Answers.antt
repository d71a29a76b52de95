use Rattle.std.proofs.Common.{refl, rules, None}
use Rattle.planner_cli_stream.specs.Statement.{Reads}
use Rattle.planner_cli_stream.specs.Items.{WithBlock}
use Rattle.planner_cli_stream.specs.Pages.{block_shown}
use Rattle.planner_cli.proofs.StatementLemmas.{item_refused}
use Rattle.planner_cli.proofs.StoreLemmas.{refused_so}
use Rattle.planner_cli.proofs.steps.answer_with_data.Goals as goal

pub returns-in-None : goal.returns-in-None
returns-in-None g c =
    let reads : Reads c.args.line.now None = search rules in
    item_refused g.S.PlanStore _ c.no_statement.result (WithBlock c.args.line.now (block_shown c.args.block))
    (None, reads, refl) c.no_statement.ensures.prints c.no_statement.ensures.err

pub returns-in_err-statement : goal.returns-in_err-statement
returns-in_err-statement g c =
    refused_so g.S.PlanStore c.args.store.now c.from_residual.result _ c.from_residual.ensures.1
