-- Replies that are kept, and jobs with them.
use Rattle.std.proofs.Common.{◌≡◌, ℕ, zero, suc, ◌≤◌, List, refl, sym, ap, subst, ◌∙◌, inl, inr, arith, Option, None}
use Rattle.std.proofs.Common.{Some, Bool, true, false}
use Rattle.std.specs.Prelude.{Contains, nat_eq, if◌then◌else◌}
use Rattle.std.specs.FinMap as map
use Rattle.std.proofs.lemmas.Bool.{eqb-true}
use Rattle.work_calendars.specs.Name.{IsName}
use Rattle.app_definition_records.specs.Applications.{FitsApplication, IsApplicationOf}
use Rattle.occurrences.specs.Serial.{IsSerial}
use Rattle.external_dependencies.specs.declared.links.Link.{Link}
use Rattle.external_dependencies.specs.declared.live.Arrival.{Arrival}
use Rattle.external_dependencies.specs.declared.rows.PlacedRow.{PlacedRow}
use Rattle.planner_machine.specs.declared.job.Job.{Job}
use Rattle.planner_machine.specs.Content.{Content, IsOnlyAt}
use Rattle.planner_machine.specs.InForce.{PutsLists}
use Rattle.planner_machine.specs.Jobs.{with_job}
use Rattle.planner_machine.specs.Moves.{bit, size}
use Rattle.planner_machine.specs.Pairs.{pair_of}
use Rattle.app_occurrences.specs.Active.{HasNoCalendar, HasNoPeriod}
use Rattle.planner_machine.specs.Plans.{WouldLoop}
use Rattle.planner_machine.specs.Sound.{IsJob, IsLink, IsShown, IsSound}
use Rattle.planner_machine.proofs.LoopLemmas.{on_loop_listed}
use Rattle.planner_machine.proofs.RangeLemmas.{defined_name}
use Rattle.planner_machine.proofs.SeatLemmas.{cases_issued, not_empty}
use Rattle.app_definition_records.specs.FieldCounts.{HasApplicationFields}

-- a set has no more of the first n serials than n
bit_small : {X : Type 0} (o : Option X) → bit o ≤ 1
bit_small None = omega arith
bit_small (Some x) = omega arith

pub size_small : {X : Type 0} (set : ℕ → Option X) (n : ℕ) → size set n ≤ n
size_small set zero = omega arith
size_small set (suc n) = let rest = size_small set n in let last = bit_small (set (suc n)) in omega arith

-- a size over the serials issued can be shown
pub shown_size : {X : Type 0} (c : Content) → IsSound c → (set : ℕ → Option X) → IsShown (size set c.sets.issued)
shown_size c sound set = let small = size_small set c.sets.issued in let few = sound.sizes.issued in omega arith

-- what stands somewhere has a serial
pub is_serial : (c : Content) → IsSound c → (serial : ℕ) (p : PlacedRow) → IsOnlyAt c.sets serial p → IsSerial serial
is_serial c sound serial p there = elim (cases_issued c.sets.issued serial) [
  | inl within ↦ let few = sound.sizes.issued in (within.0, omega (arith, within.1))
  | inr past ↦ absurd (not_empty c.sets serial p there (sound.serials.unissued serial past))
]

-- the applications of refusals have names
pub no_calendar_name : (c : Content) → IsSound c → (app : List ℕ) → HasNoCalendar c.definitions app → IsName app
no_calendar_name c sound app (a, active, lacks) =
    defined_name HasApplicationFields FitsApplication IsApplicationOf
    (map.get c.definitions.applications) sound.ranges.definitions.applications app a active.0

pub no_period_name : (c : Content) → IsSound c → (app : List ℕ) → HasNoPeriod c.definitions app → IsName app
no_period_name c sound app (a, active, lacks) =
    defined_name HasApplicationFields FitsApplication IsApplicationOf
    (map.get c.definitions.applications) sound.ranges.definitions.applications app a active.0

pub loop_name : (Puts : PutsLists) (c : Content)
    → ((after : List Link) → Puts c.definitions c.in_force after → (link : Link) → Contains after link
    → IsLink link) → (app : List ℕ) → WouldLoop Puts c app → IsName app
loop_name Puts c names app (lists, puts, least) =
    let (predecessor, listed) = on_loop_listed lists app least.0 in
    (names lists puts (record { app = app; predecessor = predecessor; within = listed.0 }) listed.1).0

-- a predecessor of a pair has a serial
pub predecessor_serial : (c : Content) → IsSound c → (successor n : ℕ) → Contains c.pairs (pair_of successor n)
    → IsSerial n
predecessor_serial c sound successor n there = elim ((sound.pairs.settled.exactly (pair_of successor n)).0 there) [
  | inl open' ↦
      let (m, p, stands, live, is) = open'.nearest.live in
      let number : p.row.serial ≡ n = ap (λ (x : Arrival). x.serial) is ∙ open'.predecessor in
      let own = sound.serials.numbered m p stands in
      let same : m ≡ n = sym own ∙ number in
      subst IsSerial same (is_serial c sound m p stands)
  | inr kept ↦
      let (p, stands, done) = sound.pairs.complete (pair_of successor n) there (
        kept.placed,
        kept.stands,
        kept.live,
        kept.waits_no_more,
      ) in
      is_serial c sound n p stands
]

-- a kept job over sound content
pub job_sound : (job : Job) (c : Content) → IsSound c → IsJob job.number job → IsSound (with_job job c)
job_sound job c sound is = record {
  ranges = record {
    definitions = sound.ranges.definitions;
    rows = sound.ranges.rows;
    days = sound.ranges.days;
    links = sound.ranges.links;
  };
  bounds = record {
    before = λ none. let u = sound.bounds.before none in
        record { rows = u.rows; pairs = u.pairs; in_force = u.in_force; issued = u.issued };
    after =
        sound.bounds.after;
  };
  serials = sound.serials;
  keys = sound.keys;
  arrivals = sound.arrivals;
  sizes = sound.sizes;
  lists = sound.lists;
  pairs = record {
    settled = sound.pairs.settled;
    complete = sound.pairs.complete;
    one_each = sound.pairs.one_each;
    in_time = sound.pairs.in_time;
    no_loop = sound.pairs.no_loop;
  };
  jobs = λ number other there. at number other (nat_eq job.number number) refl there;
}
  where
    at : (number : ℕ) (other : Job) (b : Bool) → nat_eq job.number number ≡ b
        → (if b then Some job else c.jobs number) ≡ Some other → IsJob number other
    at number other true same there =
        let one : job ≡ other = cc in
        let numbers : job.number ≡ number = eqb-true job.number number same in
        subst (IsJob number) one (subst (λ n. IsJob n job) numbers is)
    at number other false same there = sound.jobs number other there
