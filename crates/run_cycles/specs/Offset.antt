-- Offsets: places in an interval, counted from its first day as 1, 2 and so on, or from its last as -1, -2 and so on.
use Rattle.std.specs.Prelude.{ℕ, ◌+◌, ◌≤◌, ℤ, pos, negsuc, List, length, All}
use Rattle.run_cycles.specs.declared.offsets.TheConstants.{MAX_OFFSET, MAX_OFFSETS}

-- the k-th day from the first day of an interval, or the k-th from its last
pub data Offset : Type 0 where
  FromFirst : (k : ℕ) → Offset
  FromLast : (k : ℕ) → Offset

-- the offset that a number stands for: k from the first day, -k from the last; `negsuc m` is -(m + 1)
abbrev pub offset_of : ℤ → Offset
offset_of (pos k) = FromFirst k
offset_of (negsuc m) = FromLast (m + 1)

-- 1 to MAX_OFFSET days from either end
abbrev pub IsInReach : Offset → Type 0
IsInReach (FromFirst k) = (1 ≤ k) × (k ≤ MAX_OFFSET)
IsInReach (FromLast k) = (1 ≤ k) × (k ≤ MAX_OFFSET)

-- the number stands for an offset
abbrev pub IsOffset : ℤ → Type 0
IsOffset n = IsInReach (offset_of n)

-- what a run cycle may have: 1 to MAX_OFFSETS offsets, in any order, repeats allowed
abbrev pub IsOffsets : List ℤ → Type 0
IsOffsets ks = (1 ≤ length ks) × (length ks ≤ MAX_OFFSETS) × All IsOffset ks
