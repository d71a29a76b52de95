-- `ltp-create`: the long-term plan from one day to another.
use Rattle.std.specs.Prelude.{◌≡◌, ◌≢◌, ◌⊎◌, ℕ, ◌+◌, ◌<◌, List, length, None}
use Rattle.work_calendars.specs.Day.{last_planning_day}
use Rattle.app_definitions.specs.declared.definitions.Definitions.{Definitions}
use Rattle.occurrences.specs.declared.place.Place.TheVariants.{LongTerm}
use Rattle.occurrences.specs.declared.refusal.Refusal.{Refusal}
use Rattle.occurrences.specs.declared.refusal.Refusal.TheVariants.{CalendarUndefined, DatesOutOfRange, Loop}
use Rattle.occurrences.specs.declared.refusal.Refusal.TheVariants.{PeriodUndefined, PlanExists, TooManyRows}
use Rattle.occurrences.specs.declared.reply.Reply.{Reply}
use Rattle.occurrences.specs.declared.reply.Reply.TheVariants.{Made}
use Rattle.planner_machine.specs.declared.content.Bounds.{Bounds}
use Rattle.planner_machine.specs.declared.content.Draft.{Draft}
use Rattle.planner_machine.specs.declared.limits.TheConstants.{LONGEST_WINDOW}
use Rattle.planner_machine.specs.Content.{Content, Sets, midnight}
use Rattle.planner_machine.specs.Decision.{Decision}
use Rattle.planner_machine.specs.Drafts.{AreDrafts, IsMade, NamesWithin}
use Rattle.planner_machine.specs.InForce.{PutsAll}
use Rattle.planner_machine.specs.Moves.{with_bounds, with_made}
use Rattle.app_occurrences.specs.Active.{HasNoCalendar, HasNoPeriod}
use Rattle.planner_machine.specs.Plans.{ChangesPlans, IsLeastApp, WouldHoldTooMany, WouldLoop}
use Rattle.work_calendars.specs.Day.{IsDay}
use Rattle.planner_machine.specs.Meaning.{Meaning, means}

-- the days are out of order, past the last planning day, or too far apart
abbrev pub AreBadPlanDays : ℕ → ℕ → Type 0
AreBadPlanDays from to = (to < from) ⊎ ((last_planning_day < to) ⊎ (from + LONGEST_WINDOW < to))

-- the plan has these days, and the current plan ends as the first begins
abbrev pub first_bounds : ℕ → ℕ → Bounds
first_bounds from to = record { first_day = from; last_day = to; plan_end = midnight from }

-- the keys that are named on the days are made
abbrev pub IsCreated : ℕ → ℕ → Definitions → Sets → Draft → Type 0
IsCreated from to all s = IsMade (NamesWithin all (midnight from) (midnight (to + 1))) s

pub record Creates (from to : ℕ) (all : Definitions) (s : Sets) (reply : Reply) (s' : Sets) : Type 0 where
  pub new : List Draft
  pub are_new : AreDrafts (IsCreated from to all s) new
  pub replies : reply ≡ Made (length new) 0
  pub becomes : s' ≡ with_made LongTerm new (with_bounds (first_bounds from to) s)

abbrev pub CreateRefused : ℕ → ℕ → Content → Refusal → Type 0
CreateRefused from to c PlanExists = c.sets.bounds ≢ None
CreateRefused from to c (CalendarUndefined app) = IsLeastApp (HasNoCalendar c.definitions) app
CreateRefused from to c (PeriodUndefined app) = IsLeastApp (HasNoPeriod c.definitions) app
CreateRefused from to c DatesOutOfRange = AreBadPlanDays from to
CreateRefused from to c (Loop app) = WouldLoop PutsAll c app
CreateRefused from to c TooManyRows = WouldHoldTooMany (Creates from to) c
CreateRefused from to c _ = ⊥

abbrev pub create : ℕ → ℕ → Decision Content
create from to = record { Refuses = CreateRefused from to; Does = ChangesPlans (Creates from to) PutsAll }

-- the first day is a day
abbrev pub create_means : ℕ → ℕ → Meaning
create_means from to = record (means (create from to)) {
  makes = λ all s drafts. AreDrafts (IsCreated from to all s) drafts;
  fits = IsDay from;
}
