-- What is handed out of a table is a listing of what stands there.
use Rattle.std.proofs.Common.{◌≡◌, ◌↔◌, ℕ, false, List, Contains, Option, Result, IfErr, IfOk, map}
use Rattle.std.proofs.Math.Logic.{∥∥₁_elim, ∥∥₁_map}
use mathlib.Core.HLevel.{⊥_prop}
use Rattle.sqlite.specs.Held.{Held, state}
use Rattle.sqlite.specs.Order.{Row as Values}
use Rattle.sqlite.specs.State.{HasCleanDisk, IsUnchanged, Survives}
use Rattle.sqlite.specs.Store.{Ghosts}
use Rattle.occurrences.specs.declared.place.Place.{Place}
use Rattle.occurrences.specs.declared.row.Row.{Row}
use Rattle.planner_machine.specs.Content.{Content}
use Rattle.planner_machine.specs.Shown.{Listed}
use Rattle.planner_machine.specs.Sound.{IsSound}
use Rattle.plan_store.specs.Listings.{ShowRows, Shown}
use Rattle.plan_tables_schema.specs.Rows.{HaveRowids, StaysOrIsUndone, Tables, shown, tables_of}
use Rattle.plan_tables_schema.specs.Schema.{HasTables}
use Rattle.plan_tables_schema.proofs.ResultLemmas.{if_err, if_ok}
use Rattle.plan_tables_lookups.specs.Looks.{AreAsked, question}
use Rattle.plan_tables_lookups.specs.Question.{Answers}
use Rattle.plan_tables_lookups.specs.declared.looks.Look.{Look}
use Rattle.plan_tables_content.specs.Content.{IsOfSet}
use Rattle.plan_tables_queries.specs.Listing.{HoldsContent, Lists, StopsFor}
use Rattle.plan_tables_queries.specs.ListedRows.{TellsAll, TellsPart}
use Rattle.plan_tables_lookups.specs.declared.faults.Stopped.{Stopped}
use Rattle.plan_tables_lookups.specs.declared.faults.TableFault.{TableFault}
use Rattle.plan_tables_queries.proofs.KnownLemmas.{IsReadSet, facts_known}
use Rattle.plan_tables_queries.proofs.ListingLemmas.{AsksFor, IsShownSet, each_tells, hands_all, hands_part}
use Rattle.plan_tables_queries.proofs.StandingLemmas.{standing}

module _ {X : Type 0} (values_of : X → Values) (row_of : X → Row) (letter_of : X → ℕ) (place : X → Place)
    (set_of : Content → ℕ → Option X) (listed : Listed)
    (kind : (c : Content) → ∥ IsSound c ∥₁ → IsShownSet values_of row_of letter_of place (set_of c) listed c)
    (look : Look) (asked : Values) (app : Option (List ℕ)) (asks : AsksFor values_of row_of (question look) asked app)
    (given : AreAsked look asked) (fact_of : Values → X) (number_of : X → ℕ) (Is : X → Type 0)
    (read : IsReadSet (question look).table values_of fact_of number_of Is set_of)
    {S K : Type 0} (g : Ghosts S) (old new : Held S) (Accepts Refuses : K → Shown → K → Type 0) (before after : K)
    (result : Result ℕ (Stopped TableFault)) where
  abbrev all_tables : Tables
  all_tables = tables_of (state g old).now.trees

  -- the content is merely known
  abbrev Known : Content → Type 0
  Known c = ∥ HoldsContent (state g old) (question look).table c ∥₁

  sound : (c : Content) → Known c → ∥ IsSound c ∥₁
  sound c known = ∥∥₁_map known (λ holds. holds.sound)

  rowids : (c : Content) → Known c → ∥ HaveRowids (all_tables (question look).table) ∥₁
  rowids c known = ∥∥₁_map known (λ holds. holds.rowids)

  schema : (c : Content) → Known c → HasTables (state g old).now.schema
  schema c known = standing (state g old).now.schema (∥∥₁_map known (λ holds. holds.schema))

  facts : (c : Content) → Known c → (v : Values)
      → Contains (map (shown (question look).table) (all_tables (question look).table)) v
      ↔ IsOfSet values_of (set_of c) v
  facts c known = facts_known (question look).table values_of fact_of number_of Is set_of read all_tables c
      (∥∥₁_map known (λ holds. holds.content))

  -- over the tables of a plan
  abbrev Over : Type 0 → Type 0
  Over P = HasCleanDisk (state g new) → HasTables (state g old).now.schema → P

  pub lists : Over (IfOk result (TellsAll values_of row_of letter_of Accepts (Answers (question look) asked all_tables)
      before after))
      → Over (IfErr result (TellsPart Is values_of row_of letter_of Accepts Refuses
      (Answers (question look) asked all_tables) before after))
      → Over (IfOk result (λ _. IsUnchanged (state g old) (state g new)))
      → (HasCleanDisk (state g new) → HasTables (state g old).now.schema → AreAsked look asked
      → IfErr result (StopsFor (state g old) (state g new)))
      → Over (StaysOrIsUndone (state g old) (state g new))
      → (old.in_transaction ≡ false → new.in_transaction ≡ false)
      → Survives (state g old) (state g new) (λ _. HasTables (state g old).now.schema → ⊥)
      → Lists g old new (question look).table Accepts Refuses before after (ShowRows listed app) result
  lists all part same fails leaves mode survives = record {
    all = λ clean c known. if_ok result _ _
        (hands_all values_of row_of letter_of place (set_of c) listed c (kind c (sound c known)) (question look) asked
        app asks all_tables (facts c known) Accepts Refuses before after (rowids c known)) (all clean (schema c known));
    part = λ clean c known. if_err result _ _
        (hands_part values_of row_of letter_of place (set_of c) listed c (kind c (sound c known)) (question look) asked
        app asks all_tables (facts c known) Accepts Refuses before after Is (rowids c known))
        (part clean (schema c known));
    told = λ clean c known. if_err result _ _ (λ fault told untold. ∥∥₁_elim known ⊥_prop (λ holds.
        each_tells values_of row_of letter_of place (set_of c) listed c (kind c (sound c known)) (question look) asked
        app asks all_tables (facts c known) Accepts Refuses before after Is (read.formed c holds.sound) fault told untold))
        (part clean (schema c known));
    same = same;
    fails = λ clean has. fails clean has given;
    leaves = leaves;
    mode = mode;
    survives = survives;
  }
