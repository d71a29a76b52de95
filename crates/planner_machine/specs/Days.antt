-- `days`: which days an application's run cycles name.
use Rattle.std.specs.Prelude.{◌≡◌, ◌⊎◌, ℕ, ◌+◌, ◌<◌, ◌≤◌, List, length}
use Rattle.work_calendars.specs.Day.{last_planning_day}
use Rattle.run_cycles.specs.Occurrence.{ListsInOrder}
use Rattle.run_cycles.specs.declared.named.Named.{Named}
use Rattle.app_definitions.specs.declared.definitions.Definitions.{Definitions}
use Rattle.occurrences.specs.declared.refusal.Refusal.{Refusal}
use Rattle.occurrences.specs.declared.refusal.Refusal.TheVariants.{CalendarUndefined, DatesOutOfRange}
use Rattle.occurrences.specs.declared.refusal.Refusal.TheVariants.{NoActiveApplication, PeriodUndefined}
use Rattle.occurrences.specs.declared.reply.Reply.TheVariants.{Rows}
use Rattle.planner_machine.specs.declared.limits.TheConstants.{LONGEST_WINDOW}
use Rattle.planner_machine.specs.Content.{Content}
use Rattle.planner_machine.specs.Decision.{Decision}
use Rattle.planner_machine.specs.Drafts.{IsNamed}
use Rattle.app_occurrences.specs.Active.{HasNoCalendar, HasNoPeriod}
use Rattle.planner_machine.specs.Plans.{IsPlannedApp}

-- the days are out of order, past the last planning day, or too many, both ends counted
abbrev pub AreBadDays : ℕ → ℕ → Type 0
AreBadDays from to = (to < from) ⊎ ((last_planning_day < to) ⊎ (from + LONGEST_WINDOW ≤ to))

-- the named occurrences of the application on these days, in order
abbrev pub ListsDays : Definitions → List ℕ → ℕ → ℕ → List Named → Type 0
ListsDays all app from to shown = ListsInOrder (λ x. IsNamed all app x × (from ≤ x.day) × (x.day ≤ to)) shown

abbrev pub DaysRefused : List ℕ → ℕ → ℕ → Content → Refusal → Type 0
DaysRefused app from to c (CalendarUndefined least) = (least ≡ app) × HasNoCalendar c.definitions app
DaysRefused app from to c (PeriodUndefined least) = (least ≡ app) × HasNoPeriod c.definitions app
DaysRefused app from to c DatesOutOfRange = AreBadDays from to
DaysRefused app from to c NoActiveApplication = IsPlannedApp c.definitions app → ⊥
DaysRefused app from to c _ = ⊥

-- it shows them, and changes nothing
abbrev pub days : List ℕ → ℕ → ℕ → Decision Content
days app from to = record {
  Refuses = DaysRefused app from to;
  Does = λ c reply c'. (c' ≡ c)
      × ((shown : List Named) × ListsDays c.definitions app from to shown × (reply ≡ Rows (length shown)));
}
