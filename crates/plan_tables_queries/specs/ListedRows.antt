-- What rows on their way to a listing encode.
use Rattle.std.specs.Prelude.{◌≡◌, ℕ, ◌+◌, List, ◌∷◌, ◌++◌, length, map}
use Rattle.sqlite.specs.Order.{Row as Values}
use Rattle.occurrences.specs.declared.row.Row.{Row}
use Rattle.plan_store.specs.Listings.{Marked, Shown, AcceptsAll}
use Rattle.plan_tables_lookups.specs.declared.faults.Stopped.{Stopped}
use Rattle.plan_tables_lookups.specs.declared.faults.Stopped.TheVariants.{Fault, Sink}
use Rattle.plan_tables_lookups.specs.declared.faults.TableFault.{TableFault}
use Rattle.plan_tables_lookups.specs.declared.faults.TableFault.TheVariants.{Malformed}
use Rattle.plan_tables_queries.specs.Decoding.{TellsNone}

-- a fact as a listing shows it: its occurrence, and its letter
abbrev pub marked : {X : Type 0} → (X → Row) → (X → ℕ) → X → Shown
marked row_of letter_of x = Marked (row_of x) (letter_of x)

-- the sink accepted the fact that the row encodes, and it was counted
pub record AcceptsRow {X K : Type 0} (values_of : X → Values) (row_of : X → Row) (letter_of : X → ℕ)
    (Accepts : K → Shown → K → Type 0) (old : K) (before : ℕ) (row : Values) (new : K) (after : ℕ) : Type 0 where
  pub fact : X
  pub is : values_of fact ≡ row
  pub taken : Accepts old (marked row_of letter_of fact) new
  pub counted : after ≡ before + 1

-- the sink refused the fact that the row encodes; or it encodes none, or memory was refused
abbrev pub RefusesRow : {X K : Type 0} → (X → Type 0) → (X → Values) → (X → Row) → (X → ℕ) → (K → Shown → K → Type 0)
    → K → Values → K → Stopped TableFault → Type 0
RefusesRow {X} Is values_of row_of letter_of Refuses old row new Sink =
    (fact : X) × (values_of fact ≡ row) × Refuses old (marked row_of letter_of fact) new
RefusesRow Is values_of row_of letter_of Refuses old row new (Fault fault) =
    (new ≡ old) × TellsNone Is values_of row fault

-- the sink accepted the facts that all rows of an answer encode, and they were counted
pub record TellsAll {X K : Type 0} (values_of : X → Values) (row_of : X → Row) (letter_of : X → ℕ)
    (Accepts : K → Shown → K → Type 0) (IsWhole : List Values → Type 0) (old new : K) (count : ℕ) : Type 0 where
  pub facts : List X
  pub whole : IsWhole (map values_of facts)
  pub taken : AcceptsAll Accepts old (map (marked row_of letter_of) facts) new
  pub counted : count ≡ length facts

-- the sink accepted these facts, and refused the next row's if it is to blame; a malformed row is the next
abbrev pub EndsTelling : {X K : Type 0} → (X → Type 0) → (X → Values) → (X → Row) → (X → ℕ)
    → (Accepts Refuses : K → Shown → K → Type 0) → K → List X → List Values → K → Stopped TableFault → Type 0
EndsTelling {X} {K} Is values_of row_of letter_of Accepts Refuses old done rest new Sink =
    (last : K) × (fact : X) × (later : List Values) × (rest ≡ values_of fact ∷ later)
    × AcceptsAll Accepts old (map (marked row_of letter_of) done) last × Refuses last (marked row_of letter_of fact) new
EndsTelling Is values_of row_of letter_of Accepts Refuses old done rest new (Fault fault) =
    AcceptsAll Accepts old (map (marked row_of letter_of) done) new
    × (fault ≡ Malformed → (row : Values) × (later : List Values) × (rest ≡ row ∷ later)
    × TellsNone Is values_of row fault)

-- the sink accepted the facts that the first rows of an answer encode
pub record TellsPart {X K : Type 0} (Is : X → Type 0) (values_of : X → Values) (row_of : X → Row) (letter_of : X → ℕ)
    (Accepts Refuses : K → Shown → K → Type 0) (IsWhole : List Values → Type 0) (old new : K)
    (stopped : Stopped TableFault) : Type 0 where
  pub done : List X
  pub rest : List Values
  pub whole : IsWhole (map values_of done ++ rest)
  pub ends : EndsTelling Is values_of row_of letter_of Accepts Refuses old done rest new stopped
