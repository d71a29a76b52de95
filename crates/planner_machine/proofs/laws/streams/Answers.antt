use Rattle.planner_machine.proofs.StreamLemmas.{by_fate, one_way, run_sound}
use Rattle.planner_machine.proofs.laws.streams.Goals as goal

pub returns : goal.returns
returns c = record { one_way = one_way; sound = run_sound; by_fate = by_fate }
