use Rattle.planner_machine.proofs.RingLemmas.{pairs_have_no_loop}
use Rattle.planner_machine.proofs.laws.pairs_have_no_loop.Goals as goal

pub returns : goal.returns
returns c = pairs_have_no_loop
