-- the least name of the entries so far, before those that are left
use Rattle.std.specs.Prelude.{IsTrue}
use Rattle.app_occurrences.specs.Active.{LacksCalendar}
use Rattle.app_occurrences.proofs.LeastLemmas.{IsLeastBefore}
use Rattle.app_occurrences.proofs.least_names.least_without_calendar.Given as goal

abbrev pub invariant-loop-app : goal.invariant-loop-app
invariant-loop-app l = IsLeastBefore (λ app a. IsTrue a.active
    × LacksCalendar l.all a) l.all.applications l.app-iterator l.least
