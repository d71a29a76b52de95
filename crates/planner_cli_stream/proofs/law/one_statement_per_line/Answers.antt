use Rattle.planner_cli_stream.proofs.OneStatement.{one_statement}
use Rattle.planner_cli_stream.proofs.law.one_statement_per_line.Goals as goal

pub returns : goal.returns
returns c line s t p q = one_statement line s t p q
