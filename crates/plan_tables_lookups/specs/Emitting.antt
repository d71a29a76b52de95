-- What rows that are passed one after another make of a sink.
use Rattle.std.specs.Prelude.{◌≡◌, List, [], ◌∷◌, ◌++◌}
use Rattle.sqlite.specs.Order.{Row as Values}
use Rattle.sqlite.specs.State.{IsUnchanged, State}
use Rattle.sqlite.specs.declared.error.Error.{Error}
use Rattle.plan_tables_lookups.specs.declared.faults.Stopped.{Stopped}
use Rattle.plan_tables_lookups.specs.declared.faults.Stopped.TheVariants.{Fault, Sink}
use Rattle.plan_tables_schema.specs.Rows.{MayFail}

-- the sink accepts the rows, one after another
abbrev pub AcceptsAll : {K : Type 0} → (K → Values → K → Type 0) → K → List Values → K → Type 0
AcceptsAll Accepts old [] new = new ≡ old
AcceptsAll {K} Accepts old (row ∷ rows) new = (next : K) × Accepts old row next × AcceptsAll Accepts next rows new

-- the sink accepted all rows of an answer
pub record EmitsAll {K : Type 0} (Accepts : K → Values → K → Type 0) (IsWhole : List Values → Type 0) (old new : K)
    : Type 0 where
  pub rows : List Values
  pub whole : IsWhole rows
  pub taken : AcceptsAll Accepts old rows new

-- the sink accepted these rows and, if it is to blame, refused the next
abbrev pub EndsSo : {K : Type 0} → (Accepts Refuses : K → Values → K → Type 0) → K → List Values → List Values → K
    → Stopped Error → Type 0
EndsSo Accepts Refuses old done rest new (Fault e) = AcceptsAll Accepts old done new
EndsSo {K} Accepts Refuses old done rest new Sink = (last : K) × (row : Values) × (later : List Values)
    × (rest ≡ row ∷ later) × AcceptsAll Accepts old done last × Refuses last row new

-- the sink accepted the first rows of an answer
pub record EmitsPart {K : Type 0} (Accepts Refuses : K → Values → K → Type 0) (IsWhole : List Values → Type 0)
    (old new : K) (fault : Stopped Error) : Type 0 where
  pub done : List Values
  pub rest : List Values
  pub whole : IsWhole (done ++ rest)
  pub ends : EndsSo Accepts Refuses old done rest new fault

-- why not all rows were yielded: for one of the four general errors; or the sink refused a row, and nothing is changed
abbrev pub StopsFor : State → State → Stopped Error → Type 0
StopsFor old new (Fault e) = MayFail old new e
StopsFor old new Sink = IsUnchanged old new
