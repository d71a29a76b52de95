-- The items that a listing of the tables yields, and what it leaves.
use Rattle.std.specs.Prelude.{◌≡◌, ◌≢◌, ℕ, false, List, ◌∷◌, ◌++◌, Result, IfErr, IfOk}
use Rattle.sqlite.specs.Held.{Held, state}
use Rattle.sqlite.specs.State.{HasCleanDisk, IsUnchanged, State, Survives}
use Rattle.sqlite.specs.Store.{Ghosts}
use Rattle.planner_machine.specs.Content.{Content}
use Rattle.planner_machine.specs.Sound.{IsSound}
use Rattle.plan_store.specs.Listings.{EmitsAll, Shown, AcceptsAll}
use Rattle.plan_tables_schema.specs.Rows.{HaveRowids, StaysOrIsUndone, tables_of}
use Rattle.plan_tables_schema.specs.Schema.{HasTables}
use Rattle.plan_tables_schema.specs.declared.tables.Table.{Table}
use Rattle.plan_tables_content.specs.Content.{IsContentOf}
use Rattle.plan_tables_lookups.specs.declared.faults.Stopped.{Stopped}
use Rattle.plan_tables_lookups.specs.declared.faults.Stopped.TheVariants.{Fault, Sink}
use Rattle.plan_tables_lookups.specs.declared.faults.TableFault.{TableFault}
use Rattle.plan_tables_lookups.specs.declared.faults.TableFault.TheVariants.{Malformed}
use Rattle.plan_tables_queries.specs.Finding.{FailsFor}

-- the sink accepted the first items and, if it is to blame, refused the next
abbrev pub EndsSo : {K : Type 0} → (Accepts Refuses : K → Shown → K → Type 0) → K → List Shown → List Shown → K
    → Stopped TableFault → Type 0
EndsSo {K} Accepts Refuses old done rest new Sink =
    (last : K) × (item : Shown) × (later : List Shown)
    × (rest ≡ item ∷ later) × AcceptsAll Accepts old done last × Refuses last item new
EndsSo Accepts Refuses old done rest new (Fault fault) = AcceptsAll Accepts old done new

-- the sink accepted the first items of a listing
pub record EmitsPart {K : Type 0} (Accepts Refuses : K → Shown → K → Type 0) (IsWhole : List Shown → Type 0) (old new : K)
    (stopped : Stopped TableFault) : Type 0 where
  pub done : List Shown
  pub rest : List Shown
  pub whole : IsWhole (done ++ rest)
  pub ends : EndsSo Accepts Refuses old done rest new stopped

-- why a listing ended: the sink refused a row, and nothing is changed; or the rows were not fetched
abbrev pub StopsFor : State → State → Stopped TableFault → Type 0
StopsFor old new Sink = IsUnchanged old new
StopsFor old new (Fault fault) = FailsFor old new fault

-- the tables of the plan have the content, which is sound, and each row is in this table once
pub record HoldsContent (s : State) (t : Table) (c : Content) : Type 0 where
  pub schema : HasTables s.now.schema
  pub content : IsContentOf (tables_of s.now.trees) c
  pub sound : IsSound c
  pub rowids : HaveRowids (tables_of s.now.trees t)

-- if the disk gives back what was written, every content that the tables have, known as a mere fact, passes the test
abbrev pub OfContent : State → State → Table → (Content → Type 0) → Type 0
OfContent old new t Is = HasCleanDisk new → (c : Content) → ∥ HoldsContent old t c ∥₁ → Is c

-- Over the tables of a plan that have a sound content, with each row in this table once, no row is malformed, an Ok is
-- the number of all items of the listing, which the sink accepted in its order, and an error means that it accepted
-- the first of them and, if it is to blame, refused the next. Whatever the tables have, an Ok changes nothing; it
-- fails by the sink, for lack of memory, for a malformed row or for one of the four general errors, and at most what
-- was not committed is undone; a crash finds what it found before.
pub record Lists {S K : Type 0} (g : Ghosts S) (old new : Held S) (t : Table) (Accepts Refuses : K → Shown → K → Type 0)
    (before after : K) (IsWhole : Content → List Shown → Type 0) (result : Result ℕ (Stopped TableFault)) : Type 0 where
  pub all : OfContent (state g old) (state g new) t (λ c. IfOk result (EmitsAll Accepts (IsWhole c) before after))
  pub part : OfContent (state g old) (state g new) t
      (λ c. IfErr result (EmitsPart Accepts Refuses (IsWhole c) before after))
  pub told : OfContent (state g old) (state g new) t (λ c. IfErr result (λ stopped. stopped ≢ Fault Malformed))
  pub same : HasCleanDisk (state g new) → HasTables (state g old).now.schema
      → IfOk result (λ _. IsUnchanged (state g old) (state g new))
  pub fails : HasCleanDisk (state g new) → HasTables (state g old).now.schema
      → IfErr result (StopsFor (state g old) (state g new))
  pub leaves : HasCleanDisk (state g new) → HasTables (state g old).now.schema
      → StaysOrIsUndone (state g old) (state g new)
  pub mode : old.in_transaction ≡ false → new.in_transaction ≡ false
  pub survives : Survives (state g old) (state g new) (λ _. HasTables (state g old).now.schema → ⊥)
