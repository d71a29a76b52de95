use Rattle.planner_answers.proofs.Steps.{streams_have_one_run}
use Rattle.planner_answers.proofs.laws.each_stream_has_one_run.Goals as goal

pub returns : goal.returns
returns c = streams_have_one_run c.streams.ensures.one_way c.streams.ensures.sound
