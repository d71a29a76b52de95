-- the run cycles so far name the same periods in both maps, and what the new one has is in the other
use Rattle.std.proofs.Common.{◌≡◌, ℕ, ◌<◌, List}
use Rattle.std.specs.Prelude.{Some, slice_index_or}
use Rattle.std.specs.FinMap as map
use Rattle.plan_periods.specs.declared.periods.Period.{Period}
use Rattle.run_cycles.specs.declared.cycles.RunCycle.{RunCycle}
use Rattle.app_occurrences.proofs.named.periods_of.Given as goal

abbrev pub invariant-loop-cycle : goal.invariant-loop-cycle
invariant-loop-cycle l =
    ((k : ℕ) (d : RunCycle) → k < l.cycle-index
    → map.get l.periods (slice_index_or l.cycles k d).period ≡ map.get l.all.periods
    (slice_index_or l.cycles k d).period)
    × ((name : List ℕ) (p : Period) → map.get l.periods name ≡ Some p → map.get l.all.periods name ≡ Some p)
