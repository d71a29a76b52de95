-- What the refusals of a changing statement show: each detail once, and such as can be kept.
use Rattle.std.proofs.Common.{List, arith, ℕ, ◌≡◌}
use Rattle.std.specs.Prelude.{Err}
use Rattle.app_occurrences.specs.Active.{HasNoCalendar, HasNoPeriod}
use Rattle.occurrences.specs.declared.refusal.Refusal.{Refusal}
use Rattle.occurrences.specs.declared.refusal.Refusal.TheVariants.{CalendarUndefined, DatesOutOfRange, FaultyData}
use Rattle.occurrences.specs.declared.refusal.Refusal.TheVariants.{JobWithAnotherText, KeyIsLive, Loop}
use Rattle.occurrences.specs.declared.refusal.Refusal.TheVariants.{NoActiveApplication, NoPlan, NoSuchOccurrence}
use Rattle.occurrences.specs.declared.refusal.Refusal.TheVariants.{NotAStatement, NotDefined, PeriodUndefined}
use Rattle.occurrences.specs.declared.refusal.Refusal.TheVariants.{PlanEndOutOfRange, PlanExists}
use Rattle.occurrences.specs.declared.refusal.Refusal.TheVariants.{PredecessorUncompleted, StatusForbids, TooManyRows}
use Rattle.work_calendars.specs.Name.{IsName}
use Rattle.planner_machine.specs.Content.{Content}
use Rattle.planner_machine.specs.InForce.{PutsAll}
use Rattle.planner_machine.specs.Plans.{IsLeastApp, WouldLoop}
use Rattle.planner_machine.specs.Sound.{IsKeptReply, IsShown, IsSound}
use Rattle.planner_machine.proofs.DecisionLemmas.{ShowsOne}
use Rattle.planner_machine.proofs.JobLemmas.{loop_name, no_calendar_name, no_period_name}
use Rattle.planner_machine.proofs.LinkLemmas.{all_is_one, one_least_app, one_loop}
use Rattle.planner_machine.proofs.StaysSoundLemmas.{links_all}

-- no two differ, and each is in range
abbrev pub ShowsFit : {X : Type 0} → (X → Type 0) → (X → Type 0) → Type 0
ShowsFit {X} Fits Holds = ((a b : X) → Holds a → Holds b → a ≡ b) × ((a : X) → Holds a → Fits a)

-- the statement was read, so it isn't refused below 13
pub record Details (Holds : Refusal → Type 0) : Type 0 where
  pub read : Holds NotAStatement → ⊥
  pub faulty : (n : ℕ) → Holds (FaultyData n) → ⊥
  pub same_text : Holds JobWithAnotherText → ⊥
  pub calendar : ShowsFit IsName (λ app. Holds (CalendarUndefined app))
  pub period : ShowsFit IsName (λ app. Holds (PeriodUndefined app))
  pub loop : ShowsFit IsName (λ app. Holds (Loop app))
  pub predecessor : ShowsFit IsShown (λ n. Holds (PredecessorUncompleted n))

shows_none : {X : Type 0} → (Fits Holds : X → Type 0) → ((a : X) → Holds a → ⊥) → ShowsFit Fits Holds
shows_none Fits Holds none = ((λ a b h k. absurd (none a h)), λ a h. absurd (none a h))

-- no refusal shows a detail
pub plain : (Holds : Refusal → Type 0) → (Holds NotAStatement → ⊥) → ((n : ℕ) → Holds (FaultyData n) → ⊥)
    → (Holds JobWithAnotherText → ⊥) → ((app : List ℕ) → Holds (CalendarUndefined app) → ⊥)
    → ((app : List ℕ) → Holds (PeriodUndefined app) → ⊥) → ((app : List ℕ) → Holds (Loop app) → ⊥)
    → ((n : ℕ) → Holds (PredecessorUncompleted n) → ⊥) → Details Holds
plain Holds read faulty same_text calendar period loop predecessor = record {
  read = read;
  faulty = faulty;
  same_text = same_text;
  calendar = shows_none IsName (λ app. Holds (CalendarUndefined app)) calendar;
  period = shows_none IsName (λ app. Holds (PeriodUndefined app)) period;
  loop = shows_none IsName (λ app. Holds (Loop app)) loop;
  predecessor = shows_none IsShown (λ n. Holds (PredecessorUncompleted n)) predecessor;
}

-- a statement that plans all applications is refused for the least of them without a calendar, without a period or on
-- a loop
pub of_all : (c : Content) → IsSound c → (Holds : Refusal → Type 0) → (Holds NotAStatement → ⊥)
    → ((n : ℕ) → Holds (FaultyData n) → ⊥) → (Holds JobWithAnotherText → ⊥)
    → ((app : List ℕ) → Holds (CalendarUndefined app) → IsLeastApp (HasNoCalendar c.definitions) app)
    → ((app : List ℕ) → Holds (PeriodUndefined app) → IsLeastApp (HasNoPeriod c.definitions) app)
    → ((app : List ℕ) → Holds (Loop app) → WouldLoop PutsAll c app)
    → ((n : ℕ) → Holds (PredecessorUncompleted n) → ⊥) → Details Holds
of_all c sound Holds read faulty same_text calendar period loop predecessor = record {
  read = read;
  faulty = faulty;
  same_text = same_text;
  calendar = (
    (λ a b h k. one_least_app (HasNoCalendar c.definitions) a b (calendar a h) (calendar b k)),
    λ a h. no_calendar_name c sound a (calendar a h).0,
  );
  period = (
    (λ a b h k. one_least_app (HasNoPeriod c.definitions) a b (period a h) (period b k)),
    λ a h. no_period_name c sound a (period a h).0,
  );
  loop = (
    (λ a b h k. one_loop PutsAll all_is_one c a b (loop a h) (loop b k)),
    λ a h. loop_name PutsAll c (links_all c sound) a (loop a h),
  );
  predecessor = shows_none IsShown (λ n. Holds (PredecessorUncompleted n)) predecessor;
}

pub details_one : (Holds : Refusal → Type 0) → Details Holds → ShowsOne Holds
details_one Holds d = record {
  data_at = λ m n h k. absurd (d.faulty m h);
  calendar = d.calendar.0;
  period = d.period.0;
  loop = d.loop.0;
  predecessor = d.predecessor.0;
}

pub details_kept : (Holds : Refusal → Type 0) → Details Holds → (q : Refusal) → Holds q → IsKeptReply (Err q)
details_kept Holds d NotAStatement h = absurd (d.read h)
details_kept Holds d (FaultyData n) h = absurd (d.faulty n h)
details_kept Holds d JobWithAnotherText h = absurd (d.same_text h)
details_kept Holds d (CalendarUndefined app) h = d.calendar.1 app h
details_kept Holds d (PeriodUndefined app) h = d.period.1 app h
details_kept Holds d (Loop app) h = d.loop.1 app h
details_kept Holds d (PredecessorUncompleted n) h = d.predecessor.1 n h
details_kept Holds d NotDefined h = omega arith
details_kept Holds d NoPlan h = omega arith
details_kept Holds d PlanExists h = omega arith
details_kept Holds d DatesOutOfRange h = omega arith
details_kept Holds d NoActiveApplication h = omega arith
details_kept Holds d KeyIsLive h = omega arith
details_kept Holds d NoSuchOccurrence h = omega arith
details_kept Holds d StatusForbids h = omega arith
details_kept Holds d TooManyRows h = omega arith
details_kept Holds d PlanEndOutOfRange h = omega arith
