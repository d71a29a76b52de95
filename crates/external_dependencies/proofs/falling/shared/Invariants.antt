use Rattle.std.proofs.Common.{◌≡◌, ℕ, ◌<◌, get_or, length}
use Rattle.external_dependencies.specs.Falling.{AreShared, IsMarked}
use Rattle.external_dependencies.proofs.falling.shared.Given as goal

-- the numbers so far were seen, and those that came twice are shared
abbrev pub invariant-loop-number : goal.invariant-loop-number
invariant-loop-number l = record {
  same_length : length l.seen.items ≡ length l.numbers;
  all_seen : (k : ℕ) → k < l.number-index → IsMarked l.seen.items (get_or l.numbers k 0);
  so_far : AreShared l.numbers l.number-index l.shared.items;
}
