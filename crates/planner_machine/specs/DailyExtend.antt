-- `dp-extend`: the current plan is extended to a moment.
use Rattle.std.specs.Prelude.{◌≡◌, ◌⊎◌, ℕ, ◌+◌, ◌*◌, ◌<◌, ◌≤◌, None, Some}
use Rattle.occurrences.specs.declared.refusal.Refusal.{Refusal}
use Rattle.occurrences.specs.declared.refusal.Refusal.TheVariants.{NoPlan, PlanEndOutOfRange}
use Rattle.planner_machine.specs.declared.content.Bounds.{Bounds}
use Rattle.planner_machine.specs.Content.{Content, midnight}
use Rattle.planner_machine.specs.DailyPlan.{PlansDaily}
use Rattle.planner_machine.specs.Decision.{Decision}
use Rattle.planner_machine.specs.InForce.{PutsNone}
use Rattle.planner_machine.specs.Plans.{ChangesPlans, MakesOfRows}
use Rattle.planner_machine.specs.Fate.{DailyFate}
use Rattle.planner_machine.specs.Meaning.{Meaning, means}

-- the new plan end is not later than the old one, past the midnight that ends the last day, or too many hours on
abbrev pub IsBadPlanEnd : Bounds → ℕ → ℕ → Type 0
IsBadPlanEnd b hours t = (t ≤ b.plan_end) ⊎ ((midnight (b.last_day + 1) < t) ⊎ (b.plan_end + hours * 60 < t))

abbrev pub ExtendsDaily : ℕ → MakesOfRows
ExtendsDaily t all = PlansDaily t

abbrev pub DailyExtendRefused : ℕ → Content → Refusal → Type 0
DailyExtendRefused t c NoPlan = c.sets.bounds ≡ None
DailyExtendRefused t c PlanEndOutOfRange = (b : Bounds) × (c.sets.bounds ≡ Some b)
    × IsBadPlanEnd b c.definitions.options.max_extension_hours t
DailyExtendRefused t c _ = ⊥

abbrev pub dp_extend : ℕ → Decision Content
dp_extend t = record { Refuses = DailyExtendRefused t; Does = ChangesPlans (ExtendsDaily t) PutsNone }

abbrev pub daily_extend_means : ℕ → Meaning
daily_extend_means t = record (means (dp_extend t)) { fate = λ all bounds. DailyFate t }
