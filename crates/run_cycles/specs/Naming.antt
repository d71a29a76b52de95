-- For private contracts only, about the walk over all that run cycles name. A naming is a day and time, with what the
-- run cycle gives there, or none where it takes away.
use Rattle.std.specs.Prelude.{◌≡◌, ℕ, ◌+◌, ◌<◌, ◌⊎◌, ◌↔◌, Bool, List, length, slice_index_or}
use Rattle.std.specs.Prelude.{Any, AllPairs, Contains, Option, Some, None, IsSomeAnd}
use Rattle.std.specs.FinMap as map
use Rattle.plan_periods.specs.declared.periods.Period.{Period}
use Rattle.run_cycles.specs.declared.cycles.CycleType.{CycleType}
use Rattle.run_cycles.specs.declared.cycles.CycleType.TheVariants.{Normal, Negative}
use Rattle.run_cycles.specs.declared.cycles.RunCycle.{RunCycle}
use Rattle.run_cycles.specs.declared.named.Named.{Named}
use Rattle.run_cycles.specs.declared.namings.Given.{Given}
use Rattle.run_cycles.specs.declared.namings.Naming.{Naming}
use Rattle.run_cycles.specs.NamedDay.{NamesDay}
use Rattle.run_cycles.specs.Occurrence.{PeriodMap, IsNameAtMost, deadline_of}

-- what a run cycle of this type and name gives
abbrev pub given_by : CycleType → List ℕ → Option Given
given_by (Normal own) name = Some (record { run_cycle = name; deadline = own })
given_by (Negative _) name = None

abbrev pub naming_on : ℕ → Option Given → ℕ → Naming
naming_on t given d = record { day = d; time = t; given = given }

-- the run cycle, with this period, names the day of x at its time, and gives what x says
abbrev pub IsNamingWith : Period → (ℕ → Bool) → Naming → RunCycle → Type 0
IsNamingWith period work x cycle =
    (x.time ≡ cycle.ia) × (x.given ≡ given_by cycle.kind cycle.name) × NamesDay cycle period work x.day

-- the same with the period of its name, which is defined
abbrev pub IsNamingOf : PeriodMap → (ℕ → Bool) → Naming → RunCycle → Type 0
IsNamingOf periods work x cycle =
    IsSomeAnd (map.get periods cycle.period) (λ period. IsNamingWith period work x cycle)

-- the lists gained exactly the namings that P holds of
abbrev pub AddsNamings : (Naming → Type 0) → List (List Naming) → List (List Naming) → Type 0
AddsNamings P old new =
    (x : Naming) → Any (λ list. Contains list x) new ↔ (Any (λ list. Contains list x) old ⊎ P x)

-- each day is later than those before it
abbrev pub RisesByDay : List Naming → Type 0
RisesByDay list = AllPairs (λ a b. a.day < b.day) list

-- what is taken away comes before what is given, which comes by the names of the run cycles
abbrev pub GivesAtMost : Option Given → Option Given → Type 0
GivesAtMost None _ = Unit {0}
GivesAtMost (Some a) None = ⊥
GivesAtMost (Some a) (Some b) = IsNameAtMost a.run_cycle b.run_cycle

-- a doesn't come after b
abbrev pub IsNotAfter : Naming → Naming → Type 0
IsNotAfter a b =
    (a.day < b.day)
    ⊎ ((a.day ≡ b.day) × ((a.time < b.time) ⊎ ((a.time ≡ b.time) × GivesAtMost a.given b.given)))

-- by day, by time, and those of one day and time by what they give
abbrev pub InOrder : List Naming → Type 0
InOrder list = AllPairs IsNotAfter list

-- both are of one day and time
abbrev pub IsTogether : Naming → Naming → Type 0
IsTogether a b = (a.day ≡ b.day) × (a.time ≡ b.time)

-- y is at place k, and everything before it has another day or time
abbrev pub IsFirstAt : List Naming → ℕ → Naming → Type 0
IsFirstAt list k y =
    (slice_index_or list k y ≡ y) × ((j : ℕ) → j + 1 ≡ k → ¬ (IsTogether (slice_index_or list j y) y))

-- what is given on the day and at the time
abbrev pub named_by : ℕ → ℕ → Given → Named
named_by d t given =
    record { day = d; time = t; run_cycle = given.run_cycle; deadline = deadline_of d given.deadline }

-- the naming at place k is the first of its day and time, and gives x
abbrev pub DecidesAt : List Naming → ℕ → Named → Type 0
DecidesAt list k x =
    (y : Naming) × (given : Given) × (k < length list) × IsFirstAt list k y
    × (y.given ≡ Some given) × (x ≡ named_by y.day y.time given)

-- one of the first n places gives x
abbrev pub IsDecidedBefore : List Naming → ℕ → Named → Type 0
IsDecidedBefore list n x = (k : ℕ) × (k < n) × DecidesAt list k x
