use Rattle.std.proofs.Common.{ℕ, ◌<◌, get_or}
use Rattle.external_dependencies.specs.Falling.{IsAtMost}
use Rattle.external_dependencies.proofs.falling.none_above.Given as goal

abbrev pub invariant-loop-node : goal.invariant-loop-node
invariant-loop-node l = (k : ℕ) → k < l.node-index → IsAtMost l.numbers l.limit (get_or l.nodes k 0)
