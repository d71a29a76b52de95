-- Job numbers.
use Rattle.std.specs.Prelude.{◌<◌, ◌≤◌, ℕ}

abbrev pub IsJobNumber : ℕ → Type 0
IsJobNumber n = (0 < n) × (n ≤ 999999999)
