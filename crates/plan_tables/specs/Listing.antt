-- What a listing that queries the tables does.
use Rattle.std.specs.Prelude.{◌≡◌, ◌≢◌, ℕ, false, List, Option, Result, IfErr, IfOk, OnOk}
use Rattle.sqlite.specs.Held.{Held, state}
use Rattle.sqlite.specs.State.{HasCleanDisk, IsUnchanged, Survives}
use Rattle.sqlite.specs.Store.{Ghosts}
use Rattle.planner_machine.specs.Content.{Content}
use Rattle.planner_machine.specs.Sound.{AreNumbered}
use Rattle.plan_store.specs.Listings.{EmitsAll, IsListing, Shown}
use Rattle.plan_store.specs.declared.listings.ListFault.{ListFault}
use Rattle.plan_store.specs.declared.listings.ListFault.TheVariants as list
use Rattle.plan_store.specs.declared.listings.What.{What}
use Rattle.plan_store.specs.declared.stores.StoreFault.{StoreFault}
use Rattle.plan_store.specs.declared.stores.StoreFault.TheVariants as store
use Rattle.plan_store.specs.declared.listings.What.TheVariants as whats
use Rattle.plan_tables_schema.specs.Rows.{StaysOrIsUndone}
use Rattle.plan_tables_schema.specs.Schema.{HasTables}
use Rattle.plan_tables_queries.specs.Listing.{EmitsPart, StopsFor}
use Rattle.plan_tables_lookups.specs.declared.faults.Stopped.{Stopped}
use Rattle.plan_tables_lookups.specs.declared.faults.Stopped.TheVariants.{Fault, Sink}
use Rattle.plan_tables_lookups.specs.declared.faults.TableFault.{TableFault}
use Rattle.plan_tables_lookups.specs.declared.faults.TableFault.TheVariants.{Malformed, Memory}
use Rattle.plan_tables.specs.Kept.{IsKept, kept_in}
use Rattle.plan_tables.specs.Session.{fault_of}
use Rattle.plan_tables.specs.declared.keeping.Unmade.{Unmade}
use Rattle.plan_tables.specs.declared.listing.ListedTable.{ListedTable}
use Rattle.plan_tables.specs.declared.listing.ListedTable.TheVariants as asked

-- what is listed
abbrev pub what_of : ListedTable → What
what_of asked.History = whats.History
what_of asked.Deletions = whats.Deletions
what_of asked.Pairs = whats.Dependencies

-- the fault of a listing of lists, which have no device
abbrev pub ended_so : ListFault → Stopped TableFault
ended_so (list.Sink _) = Sink
ended_so list.Memory = Fault Memory
ended_so list.Device = Fault Memory

-- the fault of a listing of a store that fails so
abbrev pub listing_fault : StoreFault → ListFault
listing_fault store.Memory = list.Memory
listing_fault store.Device = list.Device

-- the same where a sink may refuse
abbrev pub fault_so : Stopped Unmade → ListFault
fault_so Sink = list.Sink (record {})
fault_so (Fault why) = listing_fault (fault_of why)

-- Over a kept content an Ok is the number of all items of the listing, which the sink accepted in its order, and an
-- error means that it accepted the first of them and, if it is to blame, refused the next. Whatever the tables have,
-- an Ok changes nothing, and it fails by the sink, for lack of memory, for a malformed row or for one of the four
-- general errors; a crash finds what it found before.
pub record ListsKept {S K : Type 0} (g : Ghosts S) (old new : Held S) (lists : Content)
    (Accepts Refuses : K → Shown → K → Type 0) (before after : K) (what : ListedTable) (app : Option (List ℕ))
    (result : Result ℕ (Stopped TableFault)) : Type 0 where
  pub all : HasCleanDisk (state g new) → ∥ IsKept (state g old) lists ∥₁
      → AreNumbered (kept_in (state g old) lists).sets
      → IfOk result (EmitsAll Accepts (IsListing (what_of what) app (kept_in (state g old) lists)) before after)
  pub part : HasCleanDisk (state g new) → ∥ IsKept (state g old) lists ∥₁
      → AreNumbered (kept_in (state g old) lists).sets
      → IfErr result (EmitsPart Accepts Refuses (IsListing (what_of what) app (kept_in (state g old) lists)) before after)
  pub told : HasCleanDisk (state g new) → ∥ IsKept (state g old) lists ∥₁ → IfErr result (λ stopped. stopped ≢ Fault Malformed)
  pub same : HasCleanDisk (state g new) → HasTables (state g old).now.schema
      → OnOk result (IsUnchanged (state g old) (state g new))
  pub fails : HasCleanDisk (state g new) → HasTables (state g old).now.schema
      → IfErr result (StopsFor (state g old) (state g new))
  pub leaves : HasCleanDisk (state g new) → HasTables (state g old).now.schema
      → StaysOrIsUndone (state g old) (state g new)
  pub mode : old.in_transaction ≡ false → new.in_transaction ≡ false
  pub survives : Survives (state g old) (state g new) (λ _. HasTables (state g old).now.schema → ⊥)
