-- `dp-replan`: a daily plan to the plan end as it is, which moves nothing out of the long-term plan.
use Rattle.std.specs.Prelude.{◌≡◌, None, Option, Some}
use Rattle.occurrences.specs.declared.refusal.Refusal.{Refusal}
use Rattle.occurrences.specs.declared.refusal.Refusal.TheVariants.{NoPlan}
use Rattle.planner_machine.specs.declared.content.Bounds.{Bounds}
use Rattle.planner_machine.specs.Content.{Content}
use Rattle.planner_machine.specs.DailyPlan.{PlansDaily}
use Rattle.planner_machine.specs.Decision.{Decision}
use Rattle.planner_machine.specs.InForce.{PutsNone}
use Rattle.planner_machine.specs.Plans.{ChangesPlans, MakesOfRows}
use Rattle.planner_machine.specs.Fate.{DailyFate, Fate, Stays}
use Rattle.planner_machine.specs.Meaning.{Meaning, means}

abbrev pub Replans : MakesOfRows
Replans all s reply s' = (b : Bounds) × (s.bounds ≡ Some b) × PlansDaily b.plan_end s reply s'

abbrev pub ReplanRefused : Content → Refusal → Type 0
ReplanRefused c NoPlan = c.sets.bounds ≡ None
ReplanRefused c _ = ⊥

abbrev pub dp_replan : Decision Content
dp_replan = record { Refuses = ReplanRefused; Does = ChangesPlans Replans PutsNone }

-- a daily plan to the plan end; before creation there is none
abbrev pub replan_fate : Option Bounds → Fate
replan_fate None = Stays
replan_fate (Some b) = DailyFate b.plan_end

abbrev pub replan_means : Meaning
replan_means = record (means dp_replan) { fate = λ all bounds. replan_fate bounds }
