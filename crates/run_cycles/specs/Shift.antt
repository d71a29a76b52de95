-- Shifts: the day that a raw day becomes, by the run cycle's rule for free days. `work` is the test for work days.
use Rattle.std.specs.Prelude.{◌≡◌, ℕ, Bool, MatchBool}
use Rattle.work_calendars.specs.WorkDay.{IsNextWorkDay, IsPreviousWorkDay}
use Rattle.run_cycles.specs.declared.rules.Rule.{Rule}
use Rattle.run_cycles.specs.declared.rules.Rule.TheVariants.{WorkDaysOnly, Before, After, Same, Skip}

-- the free day x becomes d: the closest work day before it, the closest after it, x itself, or nothing
abbrev pub IsMoved : Rule → (ℕ → Bool) → ℕ → ℕ → Type 0
IsMoved WorkDaysOnly work x d = ⊥
IsMoved Before work x d = IsPreviousWorkDay work x d
IsMoved After work x d = IsNextWorkDay work x d
IsMoved Same work x d = d ≡ x
IsMoved Skip work x d = ⊥

-- the raw day x becomes d: a work day stays
abbrev pub IsShifted : Rule → (ℕ → Bool) → ℕ → ℕ → Type 0
IsShifted rule work x d = MatchBool (work x) (d ≡ x) (IsMoved rule work x d)
