use Rattle.planner_cli_stream.proofs.Written.{reading_is}
use Rattle.planner_cli_stream.proofs.word_law.reads_what_is_written.Goals as goal

pub returns : goal.returns
returns c l words us = reading_is l words us
