use Rattle.std.proofs.Common.{take}
use Rattle.external_dependencies.specs.Search.{Visits}
use Rattle.external_dependencies.proofs.graph.visit.Given as goal

-- the targets so far are visited
abbrev pub invariant-loop-next : goal.invariant-loop-next
invariant-loop-next l =
    Visits (take l.next-index l.targets) l.node l.start l.fn.reached.items l.fn.order.items l.reached.items
    l.order.items
