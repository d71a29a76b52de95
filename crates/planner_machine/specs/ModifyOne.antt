-- `ltp-modify-one`: the same for one application, whose list alone is put into force.
use Rattle.std.specs.Prelude.{◌≡◌, ℕ, Bool, List, None}
use Rattle.std.specs.Cmp.Lexicographic.{slice_cmp}
use Rattle.std.specs.Ordering.{is_eq, nat_cmp}
use Rattle.occurrences.specs.declared.refusal.Refusal.{Refusal}
use Rattle.occurrences.specs.declared.refusal.Refusal.TheVariants.{CalendarUndefined, Loop, NoActiveApplication, NoPlan}
use Rattle.occurrences.specs.declared.refusal.Refusal.TheVariants.{PeriodUndefined, TooManyRows}
use Rattle.planner_machine.specs.Content.{Content}
use Rattle.planner_machine.specs.Decision.{Decision}
use Rattle.planner_machine.specs.InForce.{PutsOne}
use Rattle.planner_machine.specs.Modify.{Modifies, NamesAhead}
use Rattle.app_occurrences.specs.Active.{HasNoCalendar, HasNoPeriod}
use Rattle.planner_machine.specs.Plans.{ChangesPlans, IsPlannedApp, MakesOfRows, WouldHoldTooMany, WouldLoop}
use Rattle.planner_machine.specs.Drafts.{AreDrafts, IsMade}
use Rattle.planner_machine.specs.Fate.{ModifyFate}
use Rattle.planner_machine.specs.Meaning.{Meaning, means}

-- that application alone
abbrev pub IsThatApp : List ℕ → List ℕ → Type 0
IsThatApp app other = other ≡ app

abbrev pub is_that_app : List ℕ → List ℕ → Bool
is_that_app app other = is_eq (slice_cmp nat_cmp other app)

abbrev pub ModifiesOne : List ℕ → MakesOfRows
ModifiesOne app = Modifies (is_that_app app) (IsThatApp app)

abbrev pub ModifyOneRefused : List ℕ → Content → Refusal → Type 0
ModifyOneRefused app c NoPlan = c.sets.bounds ≡ None
ModifyOneRefused app c (CalendarUndefined least) = (least ≡ app) × HasNoCalendar c.definitions app
ModifyOneRefused app c (PeriodUndefined least) = (least ≡ app) × HasNoPeriod c.definitions app
ModifyOneRefused app c (Loop least) = WouldLoop (PutsOne app) c least
ModifyOneRefused app c NoActiveApplication = IsPlannedApp c.definitions app → ⊥
ModifyOneRefused app c TooManyRows = WouldHoldTooMany (ModifiesOne app) c
ModifyOneRefused app c _ = ⊥

abbrev pub modify_one : List ℕ → Decision Content
modify_one app = record { Refuses = ModifyOneRefused app; Does = ChangesPlans (ModifiesOne app) (PutsOne app) }

abbrev pub modify_one_means : List ℕ → Meaning
modify_one_means app = record (means (modify_one app)) {
  fate = λ all bounds. ModifyFate (IsThatApp app) all;
  makes = λ all s drafts. AreDrafts (IsMade (NamesAhead (IsThatApp app) all s.bounds) s) drafts;
}
