-- so far only bytes that are no line feed came, one at least each turn, and the buffers kept their fronts
use Rattle.std.proofs.Common.{◌≡◌, ◌≢◌, ℕ, ◌-◌, ◌≤◌, List, All, length, max, vec_capacity}
use Rattle.std.specs.Io.KnownBytes.{Consumes}
use Rattle.std.specs.Io.Iter.{u64_saturate}
use Rattle.planner_cli_stream.specs.Buffers.{kept}
use Rattle.planner_cli_stream.proofs.lines.read_line.Given as goal

abbrev pub invariant-loop-turn : goal.invariant-loop-turn
invariant-loop-turn g l = (seen : List ℕ) × (l.total ≡ u64_saturate (length seen)) × All (λ x. x ≢ 10) seen
    × Consumes (g.R.Read.remaining l.initial.reader) (g.R.Read.remaining l.reader) seen
    × (l.head.items ≡ kept l.head_limit l.initial.head.items seen)
    × (l.all.items ≡ kept l.all_limit l.initial.all.items seen)
    × (length l.head.items ≤ max l.head_limit (length l.initial.head.items))
    × (length l.all.items ≤ max l.all_limit (length l.initial.all.items))
    × (l.left ≡ l.initial.left - length seen) × (l._turn ≤ length seen)
    × (vec_capacity l.initial.head ≤ vec_capacity l.head) × (vec_capacity l.initial.all ≤ vec_capacity l.all)
