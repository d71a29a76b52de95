use Rattle.std.proofs.Common.{◌≡◌, ℕ, ◌<◌, false, get_or}
use Rattle.external_dependencies.proofs.falling.lone.Given as goal

-- the numbers so far are not shared
abbrev pub invariant-loop-number : goal.invariant-loop-number
invariant-loop-number l =
    (l.count ≡ l.number-index) × ((k : ℕ) → k < l.count → get_or l.shared.items (get_or l.numbers k 0) false ≡ false)
