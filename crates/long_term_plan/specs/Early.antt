-- What is refused before a row is seen.
use Rattle.std.specs.Prelude.{Option, None, Some}
use Rattle.occurrences.specs.declared.refusal.Refusal.{Refusal}
use Rattle.occurrences.specs.declared.refusal.Refusal.TheVariants.{DatesOutOfRange, NoPlan, PlanExists}
use Rattle.planner_machine.specs.Content.{Content}
use Rattle.planner_machine.specs.Decision.{Decision}
use Rattle.plan_store.specs.Verdicts.{VerdictIs}
use Rattle.plan_store.specs.declared.changes.Verdict.TheVariants.{Refused}

-- the statement is refused so, or neither the bounds of the plan nor the days that it names refuse it
abbrev pub IsRefusedEarly : Decision Content → Content → Option Refusal → Type 0
IsRefusedEarly d c (Some refusal) = VerdictIs d c (Refused refusal)
IsRefusedEarly d c None = (d.Refuses c NoPlan → ⊥) × (d.Refuses c PlanExists → ⊥) × (d.Refuses c DatesOutOfRange → ⊥)
