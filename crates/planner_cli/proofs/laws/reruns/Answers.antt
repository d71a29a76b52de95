use Rattle.planner_cli.proofs.RerunLemmas.{after_runs, one_run}
use Rattle.planner_cli.proofs.laws.reruns.Goals as goal

pub returns-clause-one_run : goal.returns-clause-one_run
returns-clause-one_run c =
    one_run c.one_statement_per_line.ensures c.reruns.ensures.each_run c.streams.ensures.sound

pub returns-clause-after_runs : goal.returns-clause-after_runs
returns-clause-after_runs c =
    after_runs c.one_statement_per_line.ensures c.reruns.ensures.each_run c.streams.ensures.sound
