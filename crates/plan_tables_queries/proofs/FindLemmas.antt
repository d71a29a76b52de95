-- What rows tell is found out as the rows are found.
use Rattle.std.proofs.Common.{◌≡◌, subst, sym}
use Rattle.std.specs.Prelude.{◌≢◌, ⊤, Result, Ok, Err, IfErr, IfOk, IsErrAnd, OnOk}
use Rattle.sqlite.specs.Held.{Held, state}
use Rattle.sqlite.specs.State.{IsUnchanged, State}
use Rattle.sqlite.specs.Store.{Ghosts}
use Rattle.sqlite.specs.declared.error.Error.{Error}
use Rattle.planner_machine.specs.Content.{Content}
use Rattle.planner_machine.specs.Sound.{IsSound}
use Rattle.plan_tables_schema.specs.Rows.{Tables, tables_of}
use Rattle.plan_tables_schema.proofs.ResultLemmas.{if_err, if_ok}
use Rattle.plan_tables_content.specs.Content.{IsContentOf}
use Rattle.plan_tables_lookups.specs.Finding.{Finds}
use Rattle.plan_tables_queries.specs.Finding.{FindsFact, FailsFor}
use Rattle.plan_tables_queries.specs.Decoding.{TellsTables}
use Rattle.plan_tables_lookups.specs.declared.faults.TableFault.{TableFault}
use Rattle.plan_tables_lookups.specs.declared.faults.TableFault.TheVariants.{Memory, Malformed, Store}

-- it is of a row, and not of the tables
abbrev pub IsOfRow : TableFault → Type 0
IsOfRow Memory = ⊤
IsOfRow Malformed = ⊤
IsOfRow (Store e) = ⊥

holds_ok : {T : Type 0} (result : Result T TableFault) (P : Type 0) → P → OnOk result P
holds_ok (Ok x) P is = is
holds_ok (Err fault) P is = tt

pub stops_for : (fault : TableFault) (old new : State) → IsOfRow fault → IsUnchanged old new → FailsFor old new fault
stops_for Memory old new of_row same = same
stops_for Malformed old new of_row same = same
stops_for (Store e) old new of_row same = absurd of_row

stops : {T : Type 0} (result : Result T TableFault) (old new : State) → IfErr result IsOfRow → IsUnchanged old new
    → IfErr result (FailsFor old new)
stops (Ok x) old new of_row same = tt
stops (Err fault) old new of_row same = stops_for fault old new of_row same

-- a fault that is passed on
pub passes_on : {S T : Type 0} (g : Ghosts S) (old new : Held S) (fault : TableFault) (IsFound : Content → T → Type 0)
    (result : Result T TableFault) → IsErrAnd result (λ f. f ≡ fault) → FindsFact {T = T} g old new (Err fault) IsFound
    → FindsFact g old new result IsFound
passes_on g old new fault IsFound (Ok x) passed is = absurd passed
passes_on g old new fault IsFound (Err f) passed is =
    subst (λ f. FindsFact g old new (Err f) IsFound) (sym passed) is

module _ {S T R : Type 0} (g : Ghosts S) (old new : Held S) (rows : R) (IsRows : Tables → R → Type 0)
    (asked : Finds g old new (Ok rows) IsRows) (IsFound : Content → T → Type 0) (result : Result T TableFault) where
  abbrev Tells : (Content → Type 0) → Type 0
  Tells Is = (c : Content) → IsContentOf (tables_of (state g old).now.trees) c → IsSound c
      → IsRows (tables_of (state g old).now.trees) rows → Is c

  pub finds_fact : Tells (λ c. IfOk result (IsFound c)) → Tells (λ _. IfErr result (λ fault. fault ≢ Malformed))
      → IfErr result IsOfRow → FindsFact g old new result IsFound
  finds_fact found told of_row = record {
    found = λ clean has c is sound. found c is sound (asked.found clean has);
    told = λ clean has c is sound. told c is sound (asked.found clean has);
    same = λ clean has. holds_ok result _ (asked.same clean has);
    fails = λ clean has. stops result _ _ of_row (asked.same clean has);
    leaves = asked.leaves;
    mode = asked.mode;
    survives = asked.survives;
  }

-- the tables could not be asked
pub not_found : {S T R : Type 0} (g : Ghosts S) (old new : Held S) (error : Error) (IsRows : Tables → R → Type 0)
    → Finds g old new (Err error) IsRows → (IsFound : Content → T → Type 0) (result : Result T TableFault)
    → IsErrAnd result (λ fault. fault ≡ Store error) → FindsFact g old new result IsFound
not_found g old new error IsRows asked IsFound result passed = passes_on g old new (Store error) IsFound result passed (record {
  found = λ _ _ _ _ _. tt;
  told = λ _ _ _ _ _ e. cc;
  same = λ _ _. tt;
  fails = asked.fails;
  leaves = asked.leaves;
  mode = asked.mode;
  survives = asked.survives;
})

-- what all rows of a table tell
module _ {S T : Type 0} (g : Ghosts S) (old new : Held S) (result : Result T TableFault) (IsTold : Tables → T → Type 0)
    (IsMalformed : Tables → Type 0) (IsFound : Content → T → Type 0)
    (found : (all : Tables) (c : Content) → IsContentOf all c → (x : T) → IsTold all x → IsFound c x)
    (told : (all : Tables) (c : Content) → IsContentOf all c → IsSound c → IsMalformed all → ⊥) where
  pub finds_told : TellsTables g old new result IsTold IsMalformed → FindsFact g old new result IsFound
  finds_told tells = record {
    found = λ clean has c is sound. if_ok result _ _ (found _ c is) (tells.told clean has);
    told = λ clean has c is sound. if_err result _ _ (λ fault untold e. told _ c is sound (untold e))
        (tells.untold clean has);
    same = tells.same;
    fails = tells.fails;
    leaves = tells.leaves;
    mode = tells.mode;
    survives = tells.survives;
  }
