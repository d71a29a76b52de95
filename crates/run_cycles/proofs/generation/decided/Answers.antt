use Rattle.std.proofs.Common.{rules}
use Rattle.run_cycles.proofs.DecidedLemmas.{not_first}
use Rattle.run_cycles.proofs.generation.decided.Goals as goal

pub returns-then-not-is_first-clause-only : goal.returns-then-not-is_first-clause-only
returns-then-not-is_first-clause-only c =
    λ x at. absurd (not_first c.args.namings.now c.args.place c.requires.place (λ first. search rules) x at)
