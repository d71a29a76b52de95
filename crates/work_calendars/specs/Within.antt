-- Limits on predecessors, in hours.
use Rattle.std.specs.Prelude.{ℕ, ◌≤◌}
use Rattle.work_calendars.specs.declared.within.TheConstants.{MAX_WITHIN}

-- hours of a limit on predecessors
abbrev pub IsWithinHours : ℕ → Type 0
IsWithinHours h = (1 ≤ h) × (h ≤ MAX_WITHIN)
