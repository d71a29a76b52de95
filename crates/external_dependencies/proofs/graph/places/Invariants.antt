use Rattle.std.proofs.Common.{take}
use Rattle.external_dependencies.specs.Places.{ArePlaces}
use Rattle.external_dependencies.proofs.graph.places.Given as goal

-- the places of the links so far
abbrev pub invariant-loop-link : goal.invariant-loop-link
invariant-loop-link l = ArePlaces l.names (take l.link-index l.list) l.found.items
