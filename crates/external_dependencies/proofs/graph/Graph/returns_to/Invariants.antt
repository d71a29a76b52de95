use Rattle.std.proofs.Common.{◌+◌, ◌-◌, length}
use Rattle.external_dependencies.specs.Search.{unreached}
use Rattle.external_dependencies.proofs.SearchLemmas.{IsSearch}
use Rattle.external_dependencies.proofs.graph.Graph.returns_to.Given as goal

-- the first nodes of the order are visited
abbrev pub invariant-loop-done : goal.invariant-loop-done
invariant-loop-done l = IsSearch l.self l.start l.reached.items l.order.items l.done

-- what is not marked, and what waits
abbrev pub decreases-loop-done : goal.decreases-loop-done
decreases-loop-done l = unreached l.reached.items + (length l.order.items - l.done)
