use Rattle.std.proofs.Common.{◌≡◌, ◌≤◌, length}
use Rattle.plan_periods.specs.Places.{met_from}
use Rattle.plan_periods.proofs.places.find_listed.Given as goal

abbrev pub invariant-loop-place : goal.invariant-loop-place
invariant-loop-place l = (met_from l.entries l.from l.to l.next ≡ met_from l.entries l.from l.to l.place) ×
    (l.next ≤ l.place) × (l.place ≤ length l.entries)
