use Rattle.std.proofs.Common.{◌≢◌, ℕ, ◌<◌, get_or, length}
use Rattle.std.proofs.lemmas.Result.{IfOk-weaker}
use Rattle.external_dependencies.specs.Falling.{FallAlong}
use Rattle.external_dependencies.specs.Walk.{ReturnsTo}
use Rattle.external_dependencies.proofs.FallingLemmas.{lone_stays}
use Rattle.external_dependencies.proofs.graph.Graph.settled.Goals as goal

pub returns-then-fall_along : goal.returns-then-fall_along
returns-then-fall_along c =
    let graph = c.args.self.now in
    let numbers = c.args.numbers.now in
    let fall : FallAlong graph numbers = c.fall_along.ensures c.if-fall_along.true in
    IfOk-weaker c.lone.result
    (λ count. (i j : ℕ) → i < count → j < length numbers → i ≢ j → get_or numbers i 0 ≢ get_or numbers j 0)
    (λ count. (node : ℕ) → node < count → node < length graph → ReturnsTo graph node → ⊥)
    (λ count alone node lt in_range. lone_stays graph numbers fall node in_range
    (λ other lt_other. alone node other lt lt_other))
    c.lone.ensures
