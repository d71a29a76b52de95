-- `ltp-extend`: more days at the end of the long-term plan.
use Rattle.std.specs.Prelude.{◌≡◌, ◌⊎◌, ℕ, ◌+◌, ◌<◌, ◌≤◌, List, length, None, Some}
use Rattle.work_calendars.specs.Day.{last_planning_day}
use Rattle.work_calendars.specs.Moment.{day_of_moment}
use Rattle.app_definitions.specs.declared.definitions.Definitions.{Definitions}
use Rattle.occurrences.specs.declared.place.Place.TheVariants.{LongTerm}
use Rattle.occurrences.specs.declared.refusal.Refusal.{Refusal}
use Rattle.occurrences.specs.declared.refusal.Refusal.TheVariants.{CalendarUndefined, DatesOutOfRange, Loop, NoPlan}
use Rattle.occurrences.specs.declared.refusal.Refusal.TheVariants.{PeriodUndefined, TooManyRows}
use Rattle.occurrences.specs.declared.reply.Reply.{Reply}
use Rattle.occurrences.specs.declared.reply.Reply.TheVariants.{Made}
use Rattle.planner_machine.specs.declared.content.Bounds.{Bounds}
use Rattle.planner_machine.specs.declared.content.Draft.{Draft}
use Rattle.planner_machine.specs.declared.limits.TheConstants.{LONGEST_WINDOW}
use Rattle.planner_machine.specs.Content.{Content, Sets, midnight}
use Rattle.planner_machine.specs.Decision.{Decision}
use Rattle.planner_machine.specs.Drafts.{AreDrafts, IsMade, NamesWithin}
use Rattle.planner_machine.specs.InForce.{PutsAll}
use Rattle.planner_machine.specs.Moves.{with_bounds, with_made}
use Rattle.app_occurrences.specs.Active.{HasNoCalendar, HasNoPeriod}
use Rattle.planner_machine.specs.Plans.{ChangesPlans, IsLeastApp, WouldHoldTooMany, WouldLoop}
use Rattle.planner_machine.specs.Meaning.{Meaning, means}

-- the new last day is not after the old one, past the last planning day, or too far from the day of the plan end
abbrev pub IsBadLastDay : Bounds → ℕ → Type 0
IsBadLastDay b to = (to ≤ b.last_day) ⊎ ((last_planning_day < to) ⊎ (day_of_moment b.plan_end + LONGEST_WINDOW < to))

abbrev pub later_bounds : Bounds → ℕ → Bounds
later_bounds b to = record b { last_day = to }

-- the keys that are named on the days after the old last day are made
abbrev pub IsAddedByExtension : Bounds → ℕ → Definitions → Sets → Draft → Type 0
IsAddedByExtension b to all s = IsMade (NamesWithin all (midnight (b.last_day + 1)) (midnight (to + 1))) s

pub record Extends (to : ℕ) (all : Definitions) (s : Sets) (reply : Reply) (s' : Sets) : Type 0 where
  pub bounds : Bounds
  pub had : s.bounds ≡ Some bounds
  pub new : List Draft
  pub are_new : AreDrafts (IsAddedByExtension bounds to all s) new
  pub replies : reply ≡ Made (length new) 0
  pub becomes : s' ≡ with_made LongTerm new (with_bounds (later_bounds bounds to) s)

abbrev pub ExtendRefused : ℕ → Content → Refusal → Type 0
ExtendRefused to c NoPlan = c.sets.bounds ≡ None
ExtendRefused to c (CalendarUndefined app) = IsLeastApp (HasNoCalendar c.definitions) app
ExtendRefused to c (PeriodUndefined app) = IsLeastApp (HasNoPeriod c.definitions) app
ExtendRefused to c DatesOutOfRange = (b : Bounds) × (c.sets.bounds ≡ Some b) × IsBadLastDay b to
ExtendRefused to c (Loop app) = WouldLoop PutsAll c app
ExtendRefused to c TooManyRows = WouldHoldTooMany (Extends to) c
ExtendRefused to c _ = ⊥

abbrev pub extend : ℕ → Decision Content
extend to = record { Refuses = ExtendRefused to; Does = ChangesPlans (Extends to) PutsAll }

abbrev pub extend_means : ℕ → Meaning
extend_means to = record (means (extend to)) {
  makes = λ all s drafts. (b : Bounds) × (s.bounds ≡ Some b) × AreDrafts (IsAddedByExtension b to all s) drafts;
}
