-- The days that a run cycle names.
use Rattle.std.specs.Prelude.{ℕ, ◌<◌, ◌≤◌, Bool, IfSome, Any}
use Rattle.plan_periods.specs.declared.periods.Period.{Period}
use Rattle.plan_periods.specs.declared.periods.Period.TheVariants.{Work}
use Rattle.run_cycles.specs.declared.cycles.RunCycle.{RunCycle}
use Rattle.run_cycles.specs.declared.rules.Rule.{Rule}
use Rattle.run_cycles.specs.declared.rules.Rule.TheVariants.{WorkDaysOnly}
use Rattle.run_cycles.specs.Offset.{Offset, offset_of}
use Rattle.run_cycles.specs.RawDay.{IsRawDay}
use Rattle.run_cycles.specs.CountedDay.{IsCountedDay}
use Rattle.run_cycles.specs.Shift.{IsShifted}

-- some raw day at the offset, wherever it lies, becomes d
abbrev pub IsShiftedDay : Period → Rule → (ℕ → Bool) → ℕ → Offset → Type 0
IsShiftedDay period rule work d k = (x : ℕ) × IsRawDay period k x × IsShifted rule work x d

-- the offset gives d: a counted day where work days count alone, else a shifted raw day
abbrev pub GivesDay : Period → Rule → (ℕ → Bool) → ℕ → Offset → Type 0
GivesDay (Work origin n) rule work d k = IsCountedDay (Work origin n) k work d
GivesDay period WorkDaysOnly work d k = IsCountedDay period k work d
GivesDay period rule work d k = IsShiftedDay period rule work d k

-- from the in-effect day on, and before the out-of-effect day where there is one
abbrev pub IsValidOn : RunCycle → ℕ → Type 0
IsValidOn cycle d = (cycle.in_effect ≤ d) × IfSome cycle.out_effect (λ out. d < out)

-- the run cycle, with this period, names d
abbrev pub NamesDay : RunCycle → Period → (ℕ → Bool) → ℕ → Type 0
NamesDay cycle period work d =
    IsValidOn cycle d × Any (λ k. GivesDay period cycle.rule work d (offset_of k)) cycle.offsets
