use Rattle.std.proofs.Common.{ℕ, ◌<◌, [], get_or, length}
use Rattle.std.specs.List.{All}
use Rattle.external_dependencies.specs.Falling.{IsAtMost}
use Rattle.external_dependencies.proofs.graph.Graph.fall_along.Given as goal

-- the edges of the nodes so far lead to no greater number
abbrev pub invariant-loop-node : goal.invariant-loop-node
invariant-loop-node l =
    (k : ℕ) → k < l.node → (get_or l.numbers k 0 < length l.numbers)
    × All (IsAtMost l.numbers (get_or l.numbers k 0)) (get_or l.self k [])
