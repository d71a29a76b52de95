-- the items so far are answered
use Rattle.planner_cli.proofs.SoFar.{SoFar}
use Rattle.planner_cli.proofs.stream.answer_all.Given as goal

abbrev pub invariant-loop : goal.invariant-loop
invariant-loop g l =
    SoFar g.S.PlanStore l.initial.store l.store (g.W.Write.contents l.initial.writer) (g.W.Write.contents l.writer)
    (g.R.Read.remaining l.initial.reader) (g.R.Read.remaining l.reader) l.tally
