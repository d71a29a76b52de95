use Rattle.std.proofs.Common.{◌≤◌}
use Rattle.std.specs.Prelude.{All}
use Rattle.work_calendars.specs.WorkIndex.{is_work_in}
use Rattle.run_cycles.specs.Naming.{IsNamingOf, RisesByDay}
use Rattle.run_cycles.proofs.NamingLemmas.{FirstLists}
use Rattle.run_cycles.proofs.namings.sources.Given as goal

abbrev pub invariant-loop-cycle : goal.invariant-loop-cycle
invariant-loop-cycle l =
    FirstLists (λ cycle x. (l.from ≤ x.day) × (x.day ≤ l.to) ×
    IsNamingOf l.periods (is_work_in l.index) x cycle) l.cycles l.cycle-index l.sources.items
    × All RisesByDay l.sources.items
