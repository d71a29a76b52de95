-- the sink took the rows so far
use Rattle.std.proofs.Common.{take, map}
use Rattle.plan_store.specs.Listed.{shown_as}
use Rattle.plan_store.specs.Listings.{AcceptsAll}
use Rattle.plan_store.proofs.listed.emit_each.Given as goal

abbrev pub invariant-loop-x : goal.invariant-loop-x
invariant-loop-x g l = AcceptsAll g.K.RowSink.accepts l.initial.sink
    (map (λ x. shown_as g.T.PlanRow.row_of g.T.Lettered.letter_of l.is_plain x.now) (take l.x-index l.rows)) l.sink
