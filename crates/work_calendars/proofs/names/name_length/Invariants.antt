use Rattle.std.proofs.Common.{length, ◌-◌, ◌≡◌, ◌==◌, ℕ, ◌≤◌, ◌<◌, false, slice_index}
use Rattle.work_calendars.proofs.names.name_length.Given as goal

-- no zero stands so far
abbrev pub invariant-loop-len : goal.invariant-loop-len
invariant-loop-len l = (l.len ≤ length l.bytes) × ((k : ℕ) → k < l.len → (slice_index l.bytes k == 0) ≡ false)

abbrev pub decreases-loop-len : goal.decreases-loop-len
decreases-loop-len l = length l.bytes - l.len
