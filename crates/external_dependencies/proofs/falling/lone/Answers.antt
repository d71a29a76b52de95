use Rattle.std.proofs.Common.{arith}
use Rattle.external_dependencies.proofs.FallingLemmas.{lone_from_shared}
use Rattle.external_dependencies.proofs.falling.lone.Goals as goal

pub returns : goal.returns
returns c =
    lone_from_shared c.args.numbers.now c.in_ok-shared.shared.items c.in_ok-shared.ensures c.loop-number.count
    (omega arith)
    c.loop-number.invariant.1
