-- `ltp-modify-all`: the long-term plan from the plan end on, as the definitions are now.
use Rattle.std.specs.Prelude.{◌≡◌, ℕ, Bool, true, List, None}
use Rattle.occurrences.specs.declared.refusal.Refusal.{Refusal}
use Rattle.occurrences.specs.declared.refusal.Refusal.TheVariants.{CalendarUndefined, Loop, NoPlan, PeriodUndefined}
use Rattle.occurrences.specs.declared.refusal.Refusal.TheVariants.{TooManyRows}
use Rattle.planner_machine.specs.Content.{Content}
use Rattle.planner_machine.specs.Decision.{Decision}
use Rattle.planner_machine.specs.InForce.{PutsAll}
use Rattle.planner_machine.specs.Modify.{Modifies, NamesAhead}
use Rattle.app_occurrences.specs.Active.{HasNoCalendar, HasNoPeriod}
use Rattle.planner_machine.specs.Plans.{ChangesPlans, IsLeastApp, MakesOfRows, WouldHoldTooMany, WouldLoop}
use Rattle.planner_machine.specs.Drafts.{AreDrafts, IsMade}
use Rattle.planner_machine.specs.Fate.{ModifyFate}
use Rattle.planner_machine.specs.Meaning.{Meaning, means}

-- any application
abbrev pub IsAnyApp : List ℕ → Type 0
IsAnyApp app = Unit {0}

abbrev pub is_any_app : List ℕ → Bool
is_any_app app = true

abbrev pub ModifiesAll : MakesOfRows
ModifiesAll = Modifies is_any_app IsAnyApp

abbrev pub ModifyAllRefused : Content → Refusal → Type 0
ModifyAllRefused c NoPlan = c.sets.bounds ≡ None
ModifyAllRefused c (CalendarUndefined app) = IsLeastApp (HasNoCalendar c.definitions) app
ModifyAllRefused c (PeriodUndefined app) = IsLeastApp (HasNoPeriod c.definitions) app
ModifyAllRefused c (Loop app) = WouldLoop PutsAll c app
ModifyAllRefused c TooManyRows = WouldHoldTooMany ModifiesAll c
ModifyAllRefused c _ = ⊥

abbrev pub modify_all : Decision Content
modify_all = record { Refuses = ModifyAllRefused; Does = ChangesPlans ModifiesAll PutsAll }

abbrev pub modify_all_means : Meaning
modify_all_means = record (means modify_all) {
  fate = λ all bounds. ModifyFate IsAnyApp all;
  makes = λ all s drafts. AreDrafts (IsMade (NamesAhead IsAnyApp all s.bounds) s) drafts;
}
