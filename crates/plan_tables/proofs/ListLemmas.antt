-- Rows that are read one table after another, and listings for which the tables of a kept content are asked.
use Rattle.std.proofs.Common.{◌≡◌, ◌≢◌, ◌≤◌, ◌∙◌, ℕ, List, [], Err, Ok, Option, Result, arith, inl, inr, refl}
use Rattle.std.proofs.Common.{ap, subst, sym}
use Rattle.std.proofs.Math.Logic.{∥∥₁_elim, ∥∥₁_map}
use Rattle.std.specs.List.Sorted.{IsSortedByKey}
use Rattle.std.specs.Ordering.{nat_cmp}
use Rattle.std.specs.Prelude.{IfOk, IsErrAnd, OnOk}
use Rattle.sqlite.specs.Effect.{Database}
use Rattle.sqlite.specs.Held.{Held, state}
use Rattle.sqlite.specs.State.{HasCleanDisk, IsUnchanged, State}
use Rattle.sqlite.specs.Store.{Ghosts}
use Rattle.sqlite.proofs.Callers.{unchanged_then}
use Rattle.sqlite.proofs.StateLemmas.{survives_then}
use Rattle.occurrences.specs.declared.place.Deletion.{Deletion}
use Rattle.occurrences.specs.declared.row.Row.{Row}
use Rattle.planner_machine.specs.Content.{Content}
use Rattle.planner_machine.specs.Sound.{AreNumbered, IsSound}
use Rattle.plan_store_lists.specs.Rows.{of_deletion, of_row}
use Rattle.plan_store.specs.AppPairs.{HasEnds}
use Rattle.plan_store.specs.Ends.{HasFound}
use Rattle.plan_store.specs.Listings.{EmitsAll, EmitsPart as EmitsSome, IsListing, Shown}
use Rattle.plan_store.specs.Parts.{ListsAll}
use Rattle.plan_store.specs.Views.{row_serial}
use Rattle.plan_store.specs.declared.listings.ListFault.{ListFault}
use Rattle.plan_store.specs.declared.listings.ListFault.TheVariants as list
use Rattle.plan_store.specs.declared.stores.StoreFault.{StoreFault}
use Rattle.plan_store.specs.declared.stores.StoreFault.TheVariants as store
use Rattle.plan_store.specs.Faults.{IsMild, IsMildListing}
use Rattle.plan_store.proofs.EndLemmas.{has_ends}
use Rattle.plan_tables_schema.specs.Rows.{StaysOrIsUndone, tables_of}
use Rattle.plan_tables_schema.specs.Schema.{HasTables}
use Rattle.plan_tables_schema.specs.declared.tables.Table.{Table}
use Rattle.plan_tables_schema.proofs.StopLemmas.{vain_since}
use Rattle.plan_tables_content.specs.Content.{IsContentOf}
use Rattle.plan_tables_loading.proofs.LookLemmas.{undone_since}
use Rattle.plan_tables_windows.specs.Fetching.{rest_in}
use Rattle.plan_tables_queries.specs.Finding.{FailsFor, FindsFact}
use Rattle.plan_tables_lookups.specs.declared.faults.TableFault.{TableFault}
use Rattle.plan_tables_lookups.specs.declared.faults.TableFault.TheVariants as table_fault
use Rattle.plan_tables_lookups.specs.declared.faults.Stopped.{Stopped}
use Rattle.plan_tables_lookups.specs.declared.faults.Stopped.TheVariants.{Fault, Sink}
use Rattle.plan_tables_queries.specs.Listing.{EmitsPart, HoldsContent, Lists, StopsFor}
use Rattle.plan_tables_queries.proofs.FindLemmas.{passes_on}
use Rattle.plan_tables.specs.Kept.{IsKept, kept_in}
use Rattle.plan_tables.specs.Listing.{ListsKept, ended_so, fault_so, listing_fault, what_of}
use Rattle.plan_tables.specs.declared.listing.ListedTable.{ListedTable}
use Rattle.plan_tables.specs.declared.keeping.Unmade.{Unmade}
use Rattle.plan_tables.specs.declared.keeping.Unmade.TheVariants as unmade
use Rattle.plan_tables.proofs.SetLemmas.{deletion_found_set, no_prop, row_found_set, row_set}
use Rattle.plan_tables.proofs.WhyLemmas.{Fails}

-- ---- one table after another

module _ (a b c : State) (same : IsUnchanged a b) where
  left_since : StaysOrIsUndone b c → StaysOrIsUndone a c
  left_since (inl stays) = inl (unchanged_then a b c same stays)
  left_since (inr undone) = inr (undone_since a b c same undone)

  fails_since : a.faults ≤ b.faults → b.step_limit ≡ a.step_limit → (fault : TableFault) → FailsFor b c fault
      → FailsFor a c fault
  fails_since more limit table_fault.Memory h = unchanged_then a b c same h
  fails_since more limit table_fault.Malformed h = unchanged_then a b c same h
  fails_since more limit (table_fault.Store e) h = vain_since a b c e more (λ _. same.0.is_open) limit h

module _ {S T U : Type 0} (g : Ghosts S) (old mid new : Held S) (x : T) (P : Content → T → Type 0)
    (Q : Content → U → Type 0) (one : FindsFact g old mid (Ok x) P) where
  abbrev first : State
  first = state g old

  abbrev between : State
  between = state g mid

  abbrev last : State
  last = state g new

  module _ (same : HasTables first.now.schema → IsUnchanged first between) (has : HasTables first.now.schema) where
    has_still : HasTables between.now.schema
    has_still = subst (λ (d : Database). HasTables d.schema) (sym (same has).0.now_is) has

    content_still : (c : Content) → IsContentOf (tables_of first.now.trees) c
        → IsContentOf (tables_of between.now.trees) c
    content_still c is = subst (λ (d : Database). IsContentOf (tables_of d.trees) c) (sym (same has).0.now_is) is

  module _ (calm : HasCleanDisk last → HasCleanDisk between) where
    same_first : HasCleanDisk last → HasTables first.now.schema → IsUnchanged first between
    same_first clean has = one.same (calm clean) has

  pub finds_both : (y : U) → FindsFact g mid new (Ok y) Q
      → FindsFact {T = T × U} g old new (Ok (x, y)) (λ c both. P c both.0 × Q c both.1)
  finds_both y two =
      let calm : HasCleanDisk last → HasCleanDisk between = λ clean. omega (arith, two.survives.clean, clean) in
      record {
        found = λ clean has c is sound. (
          one.found (calm clean) has c is sound,
          two.found clean (has_still (same_first calm clean) has) c
              (content_still (same_first calm clean) has c is) sound,
        );
        told = λ clean has c is sound. tt;
        same = λ clean has. unchanged_then first between last (same_first calm clean has)
            (two.same clean (has_still (same_first calm clean) has));
        fails = λ clean has. tt;
        leaves = λ clean has. left_since first between last (same_first calm clean has)
            (two.leaves clean (has_still (same_first calm clean) has));
        mode = λ outside. two.mode (one.mode outside);
        survives = survives_then first between last _ _ _ (λ _ _ none. none)
            (λ clean _ none has. none (has_still (same_first calm clean) has)) one.survives two.survives;
      }

  pub finds_second : {V : Type 0} (R : Content → V → Type 0) (fault : TableFault)
      → FindsFact g mid new (Err fault) Q → (result : Result V TableFault) → IsErrAnd result (λ f. f ≡ fault)
      → FindsFact g old new result R
  finds_second R fault two result passed =
      let calm : HasCleanDisk last → HasCleanDisk between = λ clean. omega (arith, two.survives.clean, clean) in
      passes_on g old new fault R result passed (record {
        found = λ clean has c is sound. tt;
        told = λ clean has c is sound. two.told clean (has_still (same_first calm clean) has) c
            (content_still (same_first calm clean) has c is) sound;
        same = λ clean has. tt;
        fails = λ clean has. fails_since first between last (same_first calm clean has) one.survives.counts
            one.survives.limit fault (two.fails clean (has_still (same_first calm clean) has));
        leaves = λ clean has. left_since first between last (same_first calm clean has)
            (two.leaves clean (has_still (same_first calm clean) has));
        mode = λ outside. two.mode (one.mode outside);
        survives = survives_then first between last _ _ _ (λ _ _ none. none)
            (λ clean _ none has. none (has_still (same_first calm clean) has)) one.survives two.survives;
      })

pub finds_not : {S T V : Type 0} (g : Ghosts S) (old new : Held S) (fault : TableFault) (P : Content → T → Type 0)
    (R : Content → V → Type 0) → FindsFact g old new (Err fault) P → (result : Result V TableFault)
    → IsErrAnd result (λ f. f ≡ fault) → FindsFact g old new result R
finds_not g old new fault P R is result passed = passes_on g old new fault R result passed (record {
  found = λ clean has c of sound. tt;
  told = is.told;
  same = λ clean has. tt;
  fails = is.fails;
  leaves = is.leaves;
  mode = is.mode;
  survives = is.survives;
})

-- ---- what was found says something else

pub finds_as : {S T U : Type 0} (g : Ghosts S) (old new : Held S) (x : T) (y : U) (P : Content → T → Type 0)
    (R : Content → U → Type 0) → FindsFact g old new (Ok x) P → ((c : Content) → IsSound c → P c x → R c y)
    → FindsFact g old new (Ok y) R
finds_as g old new x y P R is so = record {
  found = λ clean has c of sound. so c sound (is.found clean has c of sound);
  told = λ clean has c of sound. tt;
  same = is.same;
  fails = λ clean has. tt;
  leaves = is.leaves;
  mode = is.mode;
  survives = is.survives;
}

-- memory is refused then
pub finds_short : {S T U : Type 0} (g : Ghosts S) (old new : Held S) (x : T) (P : Content → T → Type 0)
    (R : Content → U → Type 0) → FindsFact g old new (Ok x) P → (result : Result U TableFault)
    → IsErrAnd result (λ f. f ≡ table_fault.Memory) → FindsFact g old new result R
finds_short g old new x P R is result passed = passes_on g old new table_fault.Memory R result passed (record {
  found = λ clean has c of sound. tt;
  told = λ clean has c of sound same. cc;
  same = λ clean has. tt;
  fails = is.same;
  leaves = is.leaves;
  mode = is.mode;
  survives = is.survives;
})

-- ---- a set in its table

pub holds_kept : (s : State) (lists : Content) (t : Table) → IsKept s lists → HoldsContent s t (kept_in s lists)
holds_kept s lists t kept = record {
  schema = kept.stored.plan.schema;
  content = kept.stored.content;
  sound = kept.sound;
  rowids = kept.stored.plan.rowids t;
}

module _ {S K : Type 0} (g : Ghosts S) (old new : Held S) (lists : Content) (Accepts Refuses : K → Shown → K → Type 0)
    (before after : K) (what : ListedTable) (app : Option (List ℕ)) where
  abbrev kept : Content
  kept = kept_in (state g old) lists

  pub lists_kept : (t : Table) (result : Result ℕ (Stopped TableFault))
      → Lists g old new t Accepts Refuses before after (IsListing (what_of what) app) result
      → ListsKept g old new lists Accepts Refuses before after what app result
  lists_kept t result did = record {
    all = λ clean is _. did.all clean kept (∥∥₁_map is (holds_kept (state g old) lists t));
    part = λ clean is _. did.part clean kept (∥∥₁_map is (holds_kept (state g old) lists t));
    told = λ clean is. did.told clean kept (∥∥₁_map is (holds_kept (state g old) lists t));
    same = λ clean has. on_ok _ result (did.same clean has);
    fails = did.fails;
    leaves = did.leaves;
    mode = did.mode;
    survives = did.survives;
  }
    where
      on_ok : (P : Type 0) (r : Result ℕ (Stopped TableFault)) → IfOk r (λ _. P) → OnOk r P
      on_ok P (Ok v) h = h
      on_ok P (Err e) h = tt

  -- ---- pairs

  -- the rest was not read
  pub unread_kept : {T : Type 0} (P : Content → T → Type 0) (why : TableFault) → FindsFact g old new (Err why) P
      → (AreNumbered kept.sets → (items : List Shown) × IsListing (what_of what) app kept items) → after ≡ before
      → (result : Result ℕ (Stopped TableFault)) → IsErrAnd result (λ stopped. stopped ≡ Fault why)
      → ListsKept g old new lists Accepts Refuses before after what app result
  unread_kept P why did some still (Ok count) passed = absurd passed
  unread_kept P why did some still (Err stopped) passed = subst
      (λ stopped. ListsKept g old new lists Accepts Refuses before after what app (Err stopped)) (sym passed) (record {
        all = λ clean is _. tt;
        part = λ clean is numbered. let (items, whole) = some numbered in
            record { done = []; rest = items; whole = whole; ends = still };
        told = λ clean is malformed. ∥∥₁_elim is no_prop (λ k. did.told clean k.stored.plan.schema kept k.stored.content
            k.sound cc);
        same = λ clean has. tt;
        fails = did.fails;
        leaves = did.leaves;
        mode = did.mode;
        survives = did.survives;
      })

  -- it was read
  module _ {T : Type 0} (x : T) (P : Content → T → Type 0) (did : FindsFact g old new (Ok x) P) (Ready : Type 0)
      (read : HasCleanDisk (state g new) → ∥ IsKept (state g old) lists ∥₁ → Ready) where
    pub pairs_ok : (count : ℕ) → (AreNumbered kept.sets → Ready
        → EmitsAll Accepts (IsListing (what_of what) app kept) before after count)
        → ListsKept g old new lists Accepts Refuses before after what app (Ok count)
    pairs_ok count all = record {
      all = λ clean is numbered. all numbered (read clean is);
      part = λ clean is numbered. tt;
      told = λ clean is. tt;
      same = did.same;
      fails = λ clean has. tt;
      leaves = did.leaves;
      mode = did.mode;
      survives = did.survives;
    }

    pub pairs_ended : (fault : ListFault) → (AreNumbered kept.sets → Ready
        → EmitsSome Accepts Refuses (IsListing (what_of what) app kept) before after fault)
        → ListsKept g old new lists Accepts Refuses before after what app (Err (ended_so fault))
    pairs_ended fault part = record {
      all = λ clean is numbered. tt;
      part = λ clean is numbered. ended fault (part numbered (read clean is));
      told = λ clean is. untold fault;
      same = λ clean has. tt;
      fails = λ clean has. stops fault (did.same clean has);
      leaves = did.leaves;
      mode = did.mode;
      survives = did.survives;
    }
      where
        ended : (f : ListFault) → EmitsSome Accepts Refuses (IsListing (what_of what) app kept) before after f
            → EmitsPart Accepts Refuses (IsListing (what_of what) app kept) before after (ended_so f)
        ended (list.Sink fault) d = record { done = d.done; rest = d.rest; whole = d.whole; ends = d.ends }
        ended list.Memory d = record { done = d.done; rest = d.rest; whole = d.whole; ends = d.ends }
        ended list.Device d = record { done = d.done; rest = d.rest; whole = d.whole; ends = d.ends }

        untold : (f : ListFault) → ended_so f ≢ Fault table_fault.Malformed
        untold (list.Sink fault) is = cc
        untold list.Memory is = cc
        untold list.Device is = cc

        stops : (f : ListFault) → IsUnchanged (state g old) (state g new)
            → StopsFor (state g old) (state g new) (ended_so f)
        stops (list.Sink fault) same = same
        stops list.Memory same = same
        stops list.Device same = same

-- ---- what was read is ready, though what is kept is a mere fact

module _ {S T : Type 0} (g : Ghosts S) (old new : Held S) (lists : Content) (x : T) (P : Content → T → Type 0)
    (did : FindsFact g old new (Ok x) P) where
  abbrev all : Content
  all = kept_in (state g old) lists

  found_kept : HasCleanDisk (state g new) → IsKept (state g old) lists → P all x
  found_kept clean k = did.found clean k.stored.plan.schema all k.stored.content k.sound

  -- all of history and all deletions
  pub rest_ready : (h : List Row) (d : List Deletion)
      → ((c : Content) → P c x → ListsAll of_row h c.sets.history × ListsAll of_deletion d c.sets.deletions)
      → HasCleanDisk (state g new) → ∥ IsKept (state g old) lists ∥₁
      → ListsAll of_row h all.sets.history × ListsAll of_deletion d all.sets.deletions
  rest_ready h d reads clean is = (
    record {
      only = λ row there. ∥∥₁_elim is (row_found_set _ _) (λ k. (reads all (found_kept clean k)).0.only row there);
      found = λ serial. ∥∥₁_elim is (row_found_set _ _) (λ k. (reads all (found_kept clean k)).0.found serial);
    },
    record {
      only = λ deletion there. ∥∥₁_elim is (deletion_found_set _ _)
          (λ k. (reads all (found_kept clean k)).1.only deletion there);
      found = λ serial. ∥∥₁_elim is (deletion_found_set _ _) (λ k. (reads all (found_kept clean k)).1.found serial);
    },
  )

  -- the rows that the lists lack for the pairs of one application
  pub ends_ready : (app : List ℕ) (rows : List Row) → IsSortedByKey row_serial nat_cmp rows
      → ((c : Content) → P c x → HasFound app lists c.sets.history rows)
      → HasCleanDisk (state g new) → ∥ IsKept (state g old) lists ∥₁ → HasEnds app (rest_in (state g old)) rows lists
  ends_ready app rows rising finds clean is =
      let ends : IsKept (state g old) lists → HasEnds app (rest_in (state g old)) rows lists =
      λ k. has_ends app (rest_in (state g old)) lists rows rising k.sound k.part (finds all (found_kept clean k)) in
      record {
        ordered = record {
          rising = rising;
          one_each = λ a b at_a at_b same. ∥∥₁_elim is (row_set _ _)
              (λ k. (ends k).ordered.one_each a b at_a at_b same);
        };
        only = λ serial row at. ∥∥₁_elim is (row_found_set _ _) (λ k. (ends k).only serial row at);
        successors = λ pair row there at of. ∥∥₁_elim is (row_found_set _ _)
            (λ k. (ends k).successors pair row there at of);
        predecessors = λ pair row there at of. ∥∥₁_elim is (row_found_set _ _)
            (λ k. (ends k).predecessors pair row there at of);
      }

-- ---- why it ended

module _ {K : Type 0} (Accepts Refuses : K → Shown → K → Type 0) (IsWhole : List Shown → Type 0) (old new : K) where
  pub handed_refused : (stopped : Stopped TableFault) → stopped ≡ Sink → EmitsPart Accepts Refuses IsWhole old new stopped
      → EmitsSome Accepts Refuses IsWhole old new (fault_so Sink)
  handed_refused stopped is did =
      let d = subst (EmitsPart Accepts Refuses IsWhole old new) is did in
      record { done = d.done; rest = d.rest; whole = d.whole; ends = d.ends }

  pub handed_unread : (stopped : Stopped TableFault) (fault : TableFault) (why : Unmade) → stopped ≡ Fault fault
      → EmitsPart Accepts Refuses IsWhole old new stopped → EmitsSome Accepts Refuses IsWhole old new (fault_so (Fault why))
  handed_unread stopped fault why is did = go why
    where
      d : EmitsPart Accepts Refuses IsWhole old new (Fault fault)
      d = subst (EmitsPart Accepts Refuses IsWhole old new) is did

      go : (w : Unmade) → EmitsSome Accepts Refuses IsWhole old new (fault_so (Fault w))
      go unmade.Memory = record { done = d.done; rest = d.rest; whole = d.whole; ends = d.ends }
      go unmade.Doubt = record { done = d.done; rest = d.rest; whole = d.whole; ends = d.ends }
      go unmade.Device = record { done = d.done; rest = d.rest; whole = d.whole; ends = d.ends }

-- a listing that failed for the fault
pub listing_fails : {S K : Type 0} (g : Ghosts S) (old new : Held S) (lists : Content)
    (Accepts Refuses : K → Shown → K → Type 0) (before after : K) (what : ListedTable) (app : Option (List ℕ))
    (stopped : Stopped TableFault) (fault : TableFault) → stopped ≡ Fault fault
    → ListsKept g old new lists Accepts Refuses before after what app (Err stopped) → Fails g old new lists fault
listing_fails g old new lists Accepts Refuses before after what app stopped fault is did =
    let d = subst (λ s. ListsKept g old new lists Accepts Refuses before after what app (Err s)) is did in
    record {
      told = λ clean kept malformed. d.told clean ∣ kept ∣₁ (ap Fault malformed);
      fails = λ clean kept. d.fails clean kept.stored.plan.schema;
      leaves = λ clean kept. d.leaves clean kept.stored.plan.schema;
      mode = d.mode;
      survives = d.survives;
    }

-- ---- the fault of a store

pub store_device : (fault : StoreFault) → listing_fault fault ≡ list.Device → fault ≡ store.Device
store_device store.Memory is = absurd (let h : ⊥ = cc is in h)
store_device store.Device is = refl

pub store_memory : (fault : StoreFault) → listing_fault fault ≡ list.Memory → fault ≡ store.Memory
store_memory store.Memory is = refl
store_memory store.Device is = absurd (let h : ⊥ = cc is in h)

pub mild_listed : (fault : StoreFault) (told : ListFault) (W : Type 0) → told ≡ listing_fault fault
    → IsMildListing W told → IsMild W fault
mild_listed fault told W is mild = (
  λ device. mild.0 (is ∙ ap listing_fault device),
  λ memory. mild.1 (is ∙ ap listing_fault memory),
)

-- nothing was passed to the sink
pub emits_none : {K : Type 0} (Accepts Refuses : K → Shown → K → Type 0) (IsWhole : List Shown → Type 0) (k : K)
    (items : List Shown) (fault : StoreFault) (told : ListFault) → told ≡ listing_fault fault → IsWhole items
    → EmitsSome Accepts Refuses IsWhole k k told
emits_none Accepts Refuses IsWhole k items fault told is whole =
    subst (EmitsSome Accepts Refuses IsWhole k k) (sym is) (go fault)
  where
    go : (f : StoreFault) → EmitsSome Accepts Refuses IsWhole k k (listing_fault f)
    go store.Memory = record { done = []; rest = items; whole = whole; ends = refl }
    go store.Device = record { done = []; rest = items; whole = whole; ends = refl }

-- a sink that refuses is neither
pub no_device : (told : ListFault) → told ≡ list.Sink (record {}) → told ≡ list.Device → ⊥
no_device told is device = cc (is, device)

pub no_memory : (told : ListFault) → told ≡ list.Sink (record {}) → told ≡ list.Memory → ⊥
no_memory told is memory = cc (is, memory)
