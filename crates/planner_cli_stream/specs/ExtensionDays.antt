-- Numbers of days by which a current plan is extended.
use Rattle.std.specs.Prelude.{◌<◌, ◌≤◌, ℕ}

abbrev pub AreExtensionDays : ℕ → Type 0
AreExtensionDays n = (0 < n) × (n ≤ 21)
