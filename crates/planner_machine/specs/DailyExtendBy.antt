-- `dp-extend` by days: the current plan is extended to the new end that the days give.
use Rattle.std.specs.Prelude.{◌≡◌, ℕ, None, Option, Some}
use Rattle.app_definitions.specs.declared.definitions.Definitions.{Definitions}
use Rattle.occurrences.specs.declared.refusal.Refusal.{Refusal}
use Rattle.occurrences.specs.declared.refusal.Refusal.TheVariants.{NoPlan, PlanEndOutOfRange}
use Rattle.planner_machine.specs.declared.content.Bounds.{Bounds}
use Rattle.planner_machine.specs.declared.counts.Count.{Count}
use Rattle.planner_machine.specs.Content.{Content}
use Rattle.planner_machine.specs.DailyExtend.{IsBadPlanEnd}
use Rattle.planner_machine.specs.DailyPlan.{PlansDaily}
use Rattle.planner_machine.specs.Decision.{Decision}
use Rattle.planner_machine.specs.Fate.{DailyFate, Fate, Stays}
use Rattle.planner_machine.specs.InForce.{PutsNone}
use Rattle.planner_machine.specs.NewEnd.{IsNewEnd}
use Rattle.planner_machine.specs.Plans.{ChangesPlans, MakesOfRows}
use Rattle.planner_machine.specs.Meaning.{Meaning, means}

-- a daily plan to the new end
abbrev pub ExtendsDailyBy : ℕ → Count → MakesOfRows
ExtendsDailyBy n count all s reply s' = (b : Bounds) × (s.bounds ≡ Some b)
    × ((t : ℕ) × IsNewEnd all b.plan_end n count t × PlansDaily t s reply s')

-- refused where there is no plan, and where the days give no new end, or one that isn't allowed
abbrev pub DailyExtendByRefused : ℕ → Count → Content → Refusal → Type 0
DailyExtendByRefused n count c NoPlan = c.sets.bounds ≡ None
DailyExtendByRefused n count c PlanEndOutOfRange = (b : Bounds) × (c.sets.bounds ≡ Some b)
    × ((t : ℕ) → IsNewEnd c.definitions b.plan_end n count t
    → IsBadPlanEnd b c.definitions.options.max_extension_hours t)
DailyExtendByRefused n count c _ = ⊥

abbrev pub dp_extend_by : ℕ → Count → Decision Content
dp_extend_by n count =
    record { Refuses = DailyExtendByRefused n count; Does = ChangesPlans (ExtendsDailyBy n count) PutsNone }

-- that of a daily plan to the new end; before creation there is none
abbrev pub DailyFateBy : ℕ → Count → Definitions → Option Bounds → Fate
DailyFateBy n count all None p q = Stays p q
DailyFateBy n count all (Some b) p q = (t : ℕ) × IsNewEnd all b.plan_end n count t × DailyFate t p q

abbrev pub daily_extend_by_means : ℕ → Count → Meaning
daily_extend_by_means n count = record (means (dp_extend_by n count)) { fate = DailyFateBy n count }
