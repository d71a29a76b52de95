-- Calls that bring more into lists, one after another.
use Rattle.std.proofs.Common.{◌≡◌, ◌≢◌, ◌≤◌, ◌∙◌, Err, Ok, Result, ap, arith, inl, inr, refl, subst, sym}
use Rattle.std.proofs.Math.Logic.{∥∥₁_elim, ∥∥₁_map}
use Rattle.std.specs.Prelude.{IfErr, IsErrAnd, OnOk}
use Rattle.sqlite.specs.Effect.{Database}
use Rattle.sqlite.specs.Held.{Held, state}
use Rattle.sqlite.specs.State.{HasCleanDisk, IsRolledBack, IsUnchanged, State, Survives}
use Rattle.sqlite.specs.Store.{Ghosts}
use Rattle.sqlite.specs.Tree.{Trees}
use Rattle.sqlite.proofs.StateLemmas.{survives_then, unchanged}
use Rattle.planner_machine.specs.Content.{Content}
use Rattle.planner_machine.specs.Sound.{IsSound}
use Rattle.plan_store.specs.Parts.{IsPartOf, Rest, with_rest}
use Rattle.plan_tables_windows.specs.Unknown.{HasMore}
use Rattle.plan_tables_windows.proofs.PartLemmas.{part_is}
use Rattle.plan_tables_schema.specs.Rows.{StaysOrIsUndone, tables_of}
use Rattle.plan_tables_schema.specs.Schema.{HasTables}
use Rattle.plan_tables_schema.proofs.ResultLemmas.{if_err, still_ok}
use Rattle.plan_tables_schema.proofs.StopLemmas.{vain_since}
use Rattle.plan_tables_content.specs.Content.{IsContentOf}
use Rattle.plan_tables_queries.specs.Finding.{FindsFact, FailsFor}
use Rattle.plan_tables_lookups.specs.declared.faults.TableFault.{TableFault}
use Rattle.plan_tables_lookups.specs.declared.faults.TableFault.TheVariants.{Memory, Malformed, Store}
use Rattle.plan_tables_windows.specs.Fetching.{AreOfTables, Fetches, Grows, rest_in, told_rest, told_with}
use Rattle.plan_tables_windows.proofs.SetLemmas.{no_prop, rest_set}

-- ---- lists that have more

pub as_before : (c : Content) → Grows c c
as_before c = record {
  more = λ _. record { same = refl; history = λ _ _ is. is; deletions = λ _ _ is. is };
  jobs = refl;
}

pub more_then : (rest : Rest) (was mid now : Content) → HasMore rest was mid → HasMore rest mid now
    → HasMore rest was now
more_then rest was mid now one two = record {
  same = two.same ∙ one.same;
  history = λ serial row is. two.history serial row (one.history serial row is);
  deletions = λ serial deletion is. two.deletions serial deletion (one.deletions serial deletion is);
}

pub grows_then : (was mid now : Content) → Grows was mid → Grows mid now → Grows was now
grows_then was mid now one two = record {
  more = λ rest. more_then rest was mid now (one.more rest) (two.more rest);
  jobs = two.jobs ∙ one.jobs;
}

-- ---- a connection that is unchanged, and then asked

module _ (a b c : State) (same : IsUnchanged a b) where
  unchanged_then : IsUnchanged b c → IsUnchanged a c
  unchanged_then later = (
    record {
      was_open = same.0.was_open;
      is_open = later.0.is_open;
      now_is = later.0.now_is ∙ same.0.now_is;
      committed_is = later.0.committed_is ∙ same.0.committed_is;
      mode = later.0.mode ∙ same.0.mode;
    },
    record {
      changes = later.1.changes ∙ same.1.changes;
      last_rowid = later.1.last_rowid ∙ same.1.last_rowid;
    },
    later.2 ∙ same.2,
  )

  undone_then : IsRolledBack b c → IsRolledBack a c
  undone_then later = record {
    was_open = λ _. same.0.was_open;
    undone = λ opens. let back = later.undone opens in
        (back.0 ∙ same.0.committed_is, back.1 ∙ same.0.committed_is);
    autocommit = later.autocommit;
    unmarked = later.unmarked;
    counts = record {
      changes = later.counts.changes ∙ same.1.changes;
      last_rowid = later.counts.last_rowid ∙ same.1.last_rowid;
    };
  }

  leaves_then : StaysOrIsUndone b c → StaysOrIsUndone a c
  leaves_then (inl still) = inl (unchanged_then still)
  leaves_then (inr undone) = inr (undone_then undone)

  stops_then : a.faults ≤ b.faults → b.step_limit ≡ a.step_limit → (fault : TableFault) → FailsFor b c fault
      → FailsFor a c fault
  stops_then more limit Memory h = unchanged_then h
  stops_then more limit Malformed h = unchanged_then h
  stops_then more limit (Store e) h = vain_since a b c e more (λ _. same.0.is_open) limit h

-- the tables that are seen still are of lists that have more
of_tables_still : (a b : State) (was mid : Content) → b.now ≡ a.now → Grows was mid → IsPartOf (rest_in a) mid
    → AreOfTables a was → AreOfTables b mid
of_tables_still a b was mid seen grows part of = record {
  schema = subst (λ (d : Database). HasTables d.schema) (sym seen) of.schema;
  content = subst (λ (d : Database). IsContentOf (tables_of d.trees) (told_with (tables_of d.trees) mid)) (sym seen)
      (subst (λ (c : Content). IsContentOf (tables_of a.now.trees) c) (sym (grows.more (rest_in a)).same) of.content);
  sound = subst (λ (d : Database). IsSound (told_with (tables_of d.trees) mid)) (sym seen)
      (subst IsSound (sym (grows.more (rest_in a)).same) of.sound);
  part = subst (λ rest. IsPartOf rest mid) (ap (λ (d : Database). told_rest (tables_of d.trees)) (sym seen)) part;
}

-- the whole of lists that have more is what it was
sound_still : (a : State) (was now : Content) → Grows was now → ∥ AreOfTables a was ∥₁
    → ∥ IsSound (with_rest (rest_in a) now) ∥₁
sound_still a was now grows of = ∥∥₁_map of (λ (o : AreOfTables a was).
    subst IsSound (sym (grows.more (rest_in a)).same) o.sound)

holds_ok : {T : Type 0} (result : Result T TableFault) (P : Type 0) → P → OnOk result P
holds_ok (Ok x) P is = is
holds_ok (Err fault) P is = tt

module _ {S T : Type 0} (g : Ghosts S) (old mid new : Held S) (was lists now : Content)
    (result : Result T TableFault) (P Q R : Rest → Content → Type 0)
    (one : Fetches {T = Unit {0}} g old mid was lists (Ok tt) P) (two : Fetches g mid new lists now result Q) where
  calm : HasCleanDisk (state g new) → HasCleanDisk (state g mid)
  calm clean = omega (arith, two.survives.clean, clean)

  seen_rest : HasCleanDisk (state g new) → ∥ AreOfTables (state g old) was ∥₁
      → rest_in (state g mid) ≡ rest_in (state g old)
  seen_rest clean of = ∥∥₁_elim of (rest_set _ _) (λ (o : AreOfTables (state g old) was).
      ap (λ (d : Database). told_rest (tables_of d.trees)) (one.seen (calm clean) o.schema))

  of_lists : HasCleanDisk (state g new) → ∥ AreOfTables (state g old) was ∥₁ → ∥ AreOfTables (state g mid) lists ∥₁
  of_lists clean of = ∥∥₁_map of (λ (o : AreOfTables (state g old) was).
      of_tables_still (state g old) (state g mid) was lists (one.seen (calm clean) o.schema) one.grows
      (one.part (calm clean) of) o)

  part_then : HasCleanDisk (state g new) → ∥ AreOfTables (state g old) was ∥₁ → IsPartOf (rest_in (state g old)) now
  part_then clean of = subst (λ rest. IsPartOf rest now) (seen_rest clean of) (two.part clean (of_lists clean of))

  has_mid : HasCleanDisk (state g new) → HasTables (state g old).now.schema → HasTables (state g mid).now.schema
  has_mid clean has = subst (λ (d : Database). HasTables d.schema) (sym (one.seen (calm clean) has)) has

  -- one call after another, where what the first found out and the second together are what was sought
  pub gathers_then : ((rest : Rest) → IsPartOf rest now → HasMore rest lists now → P rest lists → Q rest now
      → R rest now)
      → Fetches g old new was now result R
  gathers_then law = record {
    ready = λ clean of.
        let rest : Rest = rest_in (state g old) in
        still_ok result _ _ (λ q. law rest (part_then clean of) (two.grows.more rest) (one.ready (calm clean) of)
        (subst (λ r. Q r now) (seen_rest clean of) q)) (two.ready clean (of_lists clean of));
    grows = grows_then was lists now one.grows two.grows;
    part = part_then;
    told = λ clean of. two.told clean (of_lists clean of);
    seen = λ clean has. still_ok result _ _
        (λ (later : (state g new).now ≡ (state g mid).now). later ∙ one.seen (calm clean) has)
        (two.seen clean (has_mid clean has));
    same = λ clean has opens.
        let first = one.same (calm clean) has opens in
        still_ok result _ _ (unchanged_then (state g old) (state g mid) (state g new) first)
        (two.same clean (has_mid clean has) first.0.is_open);
    fails = λ clean has opens.
        let first = one.same (calm clean) has opens in
        if_err result _ _ (stops_then (state g old) (state g mid) (state g new) first one.survives.counts
        one.survives.limit) (two.fails clean (has_mid clean has) first.0.is_open);
    leaves = λ clean has opens.
        let first = one.same (calm clean) has opens in
        leaves_then (state g old) (state g mid) (state g new) first
        (two.leaves clean (has_mid clean has) first.0.is_open);
    mode = λ h. two.mode (one.mode h);
    survives = survives_then (state g old) (state g mid) (state g new) _ _ _ (λ _ _ none. none)
        (λ clean _ none has. none (has_mid clean has)) one.survives two.survives;
  }

-- what was found out is as much
pub gathers_so : {S T : Type 0} (g : Ghosts S) (old new : Held S) (was now : Content) (result : Result T TableFault)
    (P R : Rest → Content → Type 0)
    → ((rest : Rest) → IsPartOf rest now → ∥ IsSound (with_rest rest now) ∥₁ → HasMore rest was now → P rest now
    → R rest now)
    → Fetches g old new was now result P → Fetches g old new was now result R
gathers_so g old new was now result P R law is = record {
  ready = λ clean of. still_ok result _ _ (law (rest_in (state g old)) (is.part clean of)
      (sound_still (state g old) was now is.grows of) (is.grows.more (rest_in (state g old)))) (is.ready clean of);
  grows = is.grows;
  part = is.part;
  told = is.told;
  seen = is.seen;
  same = is.same;
  fails = is.fails;
  leaves = is.leaves;
  mode = is.mode;
  survives = is.survives;
}

-- a fault that is passed on
passes_on : {S T : Type 0} (g : Ghosts S) (old new : Held S) (was now : Content) (fault : TableFault)
    (P : Rest → Content → Type 0) (result : Result T TableFault) → IsErrAnd result (λ f. f ≡ fault)
    → Fetches {T = T} g old new was now (Err fault) P → Fetches g old new was now result P
passes_on g old new was now fault P (Ok x) passed is = absurd passed
passes_on {T} g old new was now fault P (Err f) passed is =
    subst (λ f. Fetches {T = T} g old new was now (Err f) P) (sym passed) is

-- where it failed nothing was sought
pub gathers_stopped : {S T U : Type 0} (g : Ghosts S) (old new : Held S) (was now : Content) (fault : TableFault)
    (P R : Rest → Content → Type 0) → Fetches {T = T} g old new was now (Err fault) P
    → (result : Result U TableFault) → IsErrAnd result (λ f. f ≡ fault) → Fetches g old new was now result R
gathers_stopped g old new was now fault P R is result passed = passes_on g old new was now fault R result passed (record {
  ready = λ clean of. tt;
  grows = is.grows;
  part = is.part;
  told = is.told;
  seen = λ clean has. tt;
  same = λ clean has opens. tt;
  fails = is.fails;
  leaves = is.leaves;
  mode = is.mode;
  survives = is.survives;
})

-- ---- where the tables are not asked

unasked : (s : State) (P : Trees → Type 0) → Survives s s P
unasked s P = record {
  clean = omega arith;
  shield = λ h. h;
  counts = omega arith;
  limit = refl;
  closes = λ _ opens. inl opens;
  crash = λ _ _ left. inl left;
}

part_of : (a : State) (was : Content) → ∥ AreOfTables a was ∥₁ → IsPartOf (rest_in a) was
part_of a was of = part_is (rest_in a) was (∥∥₁_map of (λ (o : AreOfTables a was). o.part))

forgets : (fault : TableFault) → fault ≡ Memory → fault ≢ Malformed
forgets fault is untold = let no : Memory ≡ Malformed = sym is ∙ untold in let h : ⊥ = cc no in h

pub gathers_none : {S T : Type 0} (g : Ghosts S) (held : Held S) (c : Content) (result : Result T TableFault)
    (P : Rest → Content → Type 0) → IfErr result (λ fault. fault ≡ Memory)
    → ((rest : Rest) → IsPartOf rest c → ∥ IsSound (with_rest rest c) ∥₁ → OnOk result (P rest c))
    → Fetches g held held c c result P
gathers_none g held c result P memory ready = record {
  ready = λ clean of. ready (rest_in (state g held)) (part_of (state g held) c of)
      (sound_still (state g held) c c (as_before c) of);
  grows = as_before c;
  part = λ clean of. part_of (state g held) c of;
  told = λ clean of. if_err result _ _ forgets memory;
  seen = λ clean has. holds_ok result _ refl;
  same = λ clean has opens. holds_ok result _ (unchanged (state g held) opens);
  fails = λ clean has opens. if_err result _ _ (λ fault (is : fault ≡ Memory).
      subst (FailsFor (state g held) (state g held)) (sym is) (unchanged (state g held) opens)) memory;
  leaves = λ clean has opens. inl (unchanged (state g held) opens);
  mode = λ h. h;
  survives = unasked (state g held) _;
}

-- where memory was refused before
pub gathers_refused : {S T : Type 0} (g : Ghosts S) (held : Held S) (c : Content) (P : Rest → Content → Type 0)
    (result : Result T TableFault) → IsErrAnd result (λ f. f ≡ Memory) → Fetches g held held c c result P
gathers_refused g held c P (Ok x) passed = absurd passed
gathers_refused g held c P (Err f) passed = gathers_none g held c (Err f) P passed (λ _ _ _. tt)

-- ---- where they are asked once

module _ {S X : Type 0} (g : Ghosts S) (old new : Held S) (IsFound : Content → X → Type 0) (was : Content)
    (P : Rest → Content → Type 0) where
  -- and what was found is brought into the lists
  module _ (found : X) (finds : FindsFact g old new (Ok found) IsFound) (now : Content) (grows : Grows was now)
      (result : Result (Unit {0}) TableFault) (memory : IfErr result (λ fault. fault ≡ Memory)) where
    is_found : HasCleanDisk (state g new) → ∥ AreOfTables (state g old) was ∥₁
        → ∥ IsFound (with_rest (rest_in (state g old)) was) found ∥₁
    is_found clean of = ∥∥₁_map of (λ (o : AreOfTables (state g old) was).
        finds.found clean o.schema (with_rest (rest_in (state g old)) was) o.content o.sound)

    pub gathers_found : (∥ AreOfTables (state g old) was ∥₁ → IsPartOf (rest_in (state g old)) was
        → ∥ IsFound (with_rest (rest_in (state g old)) was) found ∥₁
        → IsPartOf (rest_in (state g old)) now × OnOk result (P (rest_in (state g old)) now))
        → Fetches g old new was now result P
    gathers_found brought = record {
      ready = λ clean of. (brought of (part_of (state g old) was of) (is_found clean of)).1;
      grows = grows;
      part = λ clean of. (brought of (part_of (state g old) was of) (is_found clean of)).0;
      told = λ clean of. if_err result _ _ forgets memory;
      seen = λ clean has. holds_ok result _ (finds.same clean has).0.now_is;
      same = λ clean has opens. holds_ok result _ (finds.same clean has);
      fails = λ clean has opens. if_err result _ _ (λ fault (is : fault ≡ Memory).
          subst (FailsFor (state g old) (state g new)) (sym is) (finds.same clean has)) memory;
      leaves = λ clean has opens. finds.leaves clean has;
      mode = finds.mode;
      survives = finds.survives;
    }

  pub gathers_failed : {T : Type 0} (fault : TableFault) → FindsFact g old new (Err fault) IsFound
      → (result : Result T TableFault) → IsErrAnd result (λ f. f ≡ fault) → Fetches g old new was was result P
  gathers_failed fault finds result passed = passes_on g old new was was fault P result passed (record {
    ready = λ clean of. tt;
    grows = as_before was;
    part = λ clean of. part_of (state g old) was of;
    told = λ clean of untold. ∥∥₁_elim of no_prop (λ (o : AreOfTables (state g old) was).
        finds.told clean o.schema (with_rest (rest_in (state g old)) was) o.content o.sound untold);
    seen = λ clean has. tt;
    same = λ clean has opens. tt;
    fails = λ clean has opens. finds.fails clean has;
    leaves = λ clean has opens. finds.leaves clean has;
    mode = finds.mode;
    survives = finds.survives;
  })
