use Rattle.std.proofs.Common.{◌≡◌, ◌++◌}
use Rattle.std.specs.FinMap as map
use Rattle.std.specs.List.{All}
use Rattle.work_calendars.specs.Day.{IsDay}
use Rattle.work_calendars.proofs.calendars.Calendar.dates.Given as goal

abbrev pub invariant-loop-day : goal.invariant-loop-day
invariant-loop-day l = record {
  all : map.from_entries (l.dates.items ++ l.day-iterator) ≡ l.fn.self.dates;
  in_range : All (λ entry. IsDay entry.0) l.dates.items;
}
