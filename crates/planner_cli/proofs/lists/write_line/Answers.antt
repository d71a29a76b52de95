use Rattle.planner_cli.proofs.ListLemmas.{front_of_ended}
use Rattle.planner_cli.proofs.StoreLemmas.{always_on_err}
use Rattle.planner_cli.proofs.lists.write_line.Goals as goal

pub returns-clause-front : goal.returns-clause-front
returns-clause-front g c =
    always_on_err c.write_bytes-2.result _
    (front_of_ended _ _ _ c.args.line.now c.in_ok-write_bytes.ensures.ok c.write_bytes-2.ensures.front)
