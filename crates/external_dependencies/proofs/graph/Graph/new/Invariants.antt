use Rattle.std.proofs.Common.{map}
use Rattle.external_dependencies.specs.Walk.{items_of}
use Rattle.external_dependencies.specs.Places.{IsGraphOf}
use Rattle.external_dependencies.proofs.graph.Graph.new.Given as goal

-- the applications so far have their edges
abbrev pub invariant-loop-name : goal.invariant-loop-name
invariant-loop-name l = IsGraphOf l.links l.names l.name-index (map items_of l.targets.items)
