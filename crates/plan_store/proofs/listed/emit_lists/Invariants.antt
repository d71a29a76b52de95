-- the sink took what stands in the lists so far
use Rattle.std.proofs.Common.{take, map}
use Rattle.plan_store.specs.Listings.{AcceptsAll, in_force_shown}
use Rattle.plan_store.proofs.listed.emit_lists.Given as goal

abbrev pub invariant-loop-link : goal.invariant-loop-link
invariant-loop-link g l = AcceptsAll g.K.RowSink.accepts l.initial.sink (map in_force_shown (take l.link-index l.links))
    l.sink
