use Rattle.std.proofs.Common.{ℕ, ◌<◌, length}
use Rattle.external_dependencies.specs.Walk.{ReturnsTo}
use Rattle.external_dependencies.proofs.graph.Graph.least_returning.Given as goal

-- no node so far returns to itself
abbrev pub invariant-loop-node : goal.invariant-loop-node
invariant-loop-node l = (k : ℕ) → k < l.node → k < length l.self → ReturnsTo l.self k → ⊥
