use Rattle.planner_machine.proofs.laws.predecessors_are_complete.Goals as goal

pub returns : goal.returns
returns c = λ content sound pair there closed. sound.pairs.complete pair there closed
