-- When the next live occurrence of an application arrives in the two plans.
use Rattle.std.specs.Prelude.{ℕ, ◌≡◌, ◌<◌, ◌≤◌, List, Option, Some, None, ltb, if◌then◌else◌}
use Rattle.external_dependencies.specs.declared.live.Arrival.{Arrival}
use Rattle.planner_machine.specs.Content.{Sets}
use Rattle.plan_store.specs.HistoryReads.{IsPlannedAt}

-- the least moment of some arrivals, or that there is none
abbrev pub IsLeastOf : (Arrival → Type 0) → Option ℕ → Type 0
IsLeastOf Among (Some ia) = ((a : Arrival) × Among a × (a.ia ≡ ia)) × ((b : Arrival) → Among b → ia ≤ b.ia)
IsLeastOf Among None = (b : Arrival) → Among b → ⊥

-- the less of two
abbrev pub earlier_of : Option ℕ → Option ℕ → Option ℕ
earlier_of None second = second
earlier_of (Some a) None = Some a
earlier_of (Some a) (Some b) = if ltb b a then Some b else Some a

-- when the first live occurrence of the application arrives in the plans after the moment, or that none does
abbrev pub IsNextPlanned : Sets → List ℕ → ℕ → Option ℕ → Type 0
IsNextPlanned s app moment (Some next) = IsPlannedAt s app next × (moment < next)
    × ((ia : ℕ) → IsPlannedAt s app ia → moment < ia → next ≤ ia)
IsNextPlanned s app moment None = (ia : ℕ) → IsPlannedAt s app ia → moment < ia → ⊥
