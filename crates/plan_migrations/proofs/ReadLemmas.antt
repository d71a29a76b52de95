-- What is read of the tables of schema 1, and what is made of it.
use Rattle.std.proofs.Common.{◌≡◌, ◌∙◌, ◌≤◌, ◌<◌, ◌+◌, ◌⊎◌, ap, get_or, inl, inr, ℕ, List, [], ◌∷◌, ◌++◌, map, length, take, IsTrue, refl, sym, subst}
use Rattle.std.proofs.Common.{None, Result, Ok, Err, true≢false}
use Rattle.std.specs.Prelude.{IfErr, OnErr, OnOk}
use Rattle.std.specs.List.{All, AllByRecursion}
use Rattle.std.specs.List.Sorted.{IsPermutation}
use Rattle.std.proofs.lemmas.List.{map-append, take_more}
use Rattle.std.proofs.lemmas.List.Elements.{All-map, All-push, All-weaker, recursion_from_All}
use Rattle.std.proofs.lemmas.List.Sorted.{IsPermutation-map, IsPermutation-trans}
use Rattle.sqlite.specs.Effect.{Database}
use Rattle.sqlite.specs.State.{IsLive, IsUnchanged, State}
use Rattle.sqlite.specs.declared.error.Error.{Error}
use Rattle.sqlite.specs.declared.error.Error.TheVariants.{SqliteFailure}
use Rattle.sqlite.specs.declared.error.ErrorCode.TheVariants as code
use Rattle.sqlite.specs.Tree.{Trees}
use Rattle.sqlite.proofs.Callers.{unchanged_then}
use Rattle.planner_machine.specs.Content.{Content}
use Rattle.plan_tables_schema.specs.Rows.{Tables, no_rows, shown, tables_of}
use Rattle.plan_tables_schema.specs.Schema.{all_tables, plan_schema}
use Rattle.plan_tables_schema.specs.declared.tables.Table.{Table}
use Rattle.plan_tables_schema.specs.declared.tables.Table.TheVariants.{Meta, CalendarEntry, Period, Application, RunCycle}
use Rattle.plan_tables_schema.specs.declared.tables.Table.TheVariants.{Offset, Predecessor, LinkInForce, LongTerm, Current}
use Rattle.plan_tables_schema.specs.declared.tables.Table.TheVariants.{History, Deletion, Dependency, Job}
use Rattle.plan_migrations_remaking.specs.FirstSchema.{CanRemake, HasFirstTables, first_shown}
use Rattle.plan_migrations_remaking.specs.FirstTexts.{first_select_sql}
use Rattle.plan_migrations_remaking.specs.Refusals.{FailsFor}
use Rattle.plan_migrations_remaking.specs.Remaking.{AreAllFirst, AreRemade, AreRowsOf, AreWhole, CanRemakeOf, HaveStayingRowids, IsRemadeOf, RefusesToRemake, RemakesTo}
use Rattle.plan_migrations_remaking.specs.Remaking.{remade_row, tables_in, with_all_put}
use Rattle.plan_migrations_remaking.specs.Turns.{DeviceHasCause, is_of_device}
use Rattle.plan_migrations_remaking.specs.Types.{AreFirst}
use Rattle.plan_tables_opening.specs.Faults.{fault_for}
use Rattle.plan_tables_opening.specs.Rowids.{rowid_sql}
use Rattle.plan_tables_opening.specs.declared.faults.OpenFault.TheVariants as OpenFault
use Rattle.plan_tables_opening.specs.declared.faults.OpenFault.TheVariants.{Unopened}
use Rattle.plan_migrations_remaking.specs.declared.rows.FirstRows.{FirstRows}
use Rattle.plan_migrations_remaking.proofs.CauseLemmas.{calm_fill, fails_after}
use Rattle.plan_migrations_remaking.proofs.StepLemmas as step
use Rattle.plan_tables_opening.specs.Kept.{IsKept}
use Rattle.plan_migrations.specs.FirstContent.{AreOfFirst, IsFirstContentOf}
use Rattle.plan_migrations.specs.Migrating.{AreNotTaken, AreRead, AreRenewed, AreShown, ChecksTables, HaveOtherRowids}
use Rattle.plan_migrations.specs.Migrating.{FailToHold, FailsToRead, FailsToReadAll, FailsToRemake, HaveContent, HaveSound}
use Rattle.plan_migrations.specs.Migrating.{IsMigrated, IsRemade, IsRenewed, IsUnmigrated, IsUnrenewed, MayRenew}
use Rattle.plan_migrations.specs.Migrating.{RenewsFrom, TellsOf}
use Rattle.plan_migrations.specs.Schemas.{IsKnownVersion, IsOfSchema, IsOfVersion, IsOtherFirst, ShowsVersion, TellsVersion}
use Rattle.plan_migrations.specs.declared.versions.TheConstants.{FIRST_VERSION}
use Rattle.plan_tables_schema.specs.declared.tables.TheConstants.{SCHEMA_VERSION}
use Rattle.plan_migrations.specs.declared.faults.MigrateFault.{MigrateFault}
use Rattle.plan_migrations.specs.declared.faults.MigrateFault.TheVariants.{UnknownVersion, OtherTable, Rows, Memory, Device}
use Rattle.plan_tables_opening.proofs.KeptLemmas.{kept_if_same}
use Rattle.plan_migrations.proofs.AskLemmas.{device_since}
use Rattle.plan_migrations.proofs.ContentLemmas.{content_kept, content_stays}
use Rattle.plan_migrations.proofs.TextLemmas.{first_reads, rowid_reads}
use Rattle.plan_migrations.proofs.TurnLemmas.{failure_since, kept_since, memory_since, of_schema_since, of_version}
use Rattle.plan_migrations.proofs.TurnLemmas.{otherwise_since, same_if_version, shown_since, shown_until, unmigrated}
use Rattle.plan_migrations.proofs.TurnLemmas.{version_until}
use Rattle.plan_migrations.proofs.VersionLemmas.{of_first}

pick : (Q : Table → Type 0) → AllByRecursion Q all_tables → (t : Table) → Q t
pick Q h Meta = h.0
pick Q h CalendarEntry = h.1.0
pick Q h Period = h.1.1.0
pick Q h Application = h.1.1.1.0
pick Q h RunCycle = h.1.1.1.1.0
pick Q h Offset = h.1.1.1.1.1.0
pick Q h Predecessor = h.1.1.1.1.1.1.0
pick Q h LinkInForce = h.1.1.1.1.1.1.1.0
pick Q h LongTerm = h.1.1.1.1.1.1.1.1.0
pick Q h Current = h.1.1.1.1.1.1.1.1.1.0
pick Q h History = h.1.1.1.1.1.1.1.1.1.1.0
pick Q h Deletion = h.1.1.1.1.1.1.1.1.1.1.1.0
pick Q h Dependency = h.1.1.1.1.1.1.1.1.1.1.1.1.0
pick Q h Job = h.1.1.1.1.1.1.1.1.1.1.1.1.1.0

pub each : (Q : Table → Type 0) → All Q all_tables → (t : Table) → Q t
each Q all = pick Q (recursion_from_All Q all_tables all)

module _ (a b : State) (has : HasFirstTables a.now.schema) (live : IsLive a) (reads : List FirstRows) (all : Tables) where
  abbrev Remade : FirstRows → Type 0
  Remade read = IsPermutation (map (remade_row read.table) read.rows.items) (map (shown read.table) (all read.table))

  abbrev Renewed : Table → Type 0
  Renewed t = IsPermutation (map (remade_row t) (map (first_shown t) (tables_of a.now.trees t))) (map (shown t) (all t))

  one_renewed : (read : FirstRows) → AreShown a b read → Remade read → Renewed read.table
  one_renewed read told remade =
      let t = read.table in
      let was = map (first_shown t) (tables_of a.now.trees t) in
      IsPermutation-trans (map (remade_row t) was) (map (remade_row t) read.rows.items) (map (shown t) (all t))
      (IsPermutation-map (remade_row t) was read.rows.items (step.reads t a b read.rows.items has live told)) remade

  -- the rows that are read are those of the tables, so these are made anew
  pub renewed : AreWhole reads → All (AreShown a b) reads → AreRemade reads all → AreRenewed (tables_of a.now.trees) all
  renewed whole told remade = each Renewed (subst (All Renewed) whole (All-map Renewed (λ (read : FirstRows). read.table)
      reads (λ i d low. one_renewed (get_or reads i d) (told i d low) (remade i d low))))

  -- and they have its rows
  pub rows_of : All (AreShown a b) reads → AreRowsOf (tables_of a.now.trees) reads
  rows_of told i d low =
      let read = get_or reads i d in step.reads read.table a b read.rows.items has live (told i d low)

module _ (a b : State) (reads : List FirstRows) (live : IsLive a) (whole : AreWhole reads) (told : All (AreShown a b) reads) where
  pub renews : (db : Trees) → RemakesTo reads a.now db → AreOfFirst (tables_of a.now.trees) → HaveSound reads
      → RenewsFrom a.now db
  renews db to first sound =
      let can = to.remade.can in
      let rows = renewed a b can.has live reads (tables_of db) whole told to.rows in
      let content = content_kept (tables_of a.now.trees) (tables_of db) rows first in
      record {
        was = can;
        schema = to.schema;
        stands = to.remade.schema;
        obeys = to.obeys;
        plan = to.plan;
        rowids = to.rowids;
        others = to.remade.others;
        rows = rows;
        content = content;
        sound = (sound.0, sound.1, (content sound.0).1 (sound.2 (tables_of db) to.rows));
      }

  -- what the tables tell is told by all that are made of the rows
  pub have_content : HasFirstTables a.now.schema → (c : Content) → IsFirstContentOf (tables_of a.now.trees) c
      → HaveContent reads c
  have_content has c is all remade =
      content_stays (tables_of a.now.trees) all (renewed a b has live reads all whole told remade) c is

  pub are_read : CanRemake a.now.schema → AreAllFirst reads → AreRead a.now reads
  are_read can typed =
      record { can = can; whole = whole; typed = typed; rows = rows_of a b can.has live reads (tables_of a.now.trees) told }

-- so they can be remade with these rows
pub can_remake_of : (a b : State) (reads : List FirstRows) → IsUnchanged a b → IsLive a → CanRemake a.now.schema
    → All (AreShown a b) reads → HaveStayingRowids (tables_of a.now.trees) → CanRemakeOf reads b.now
can_remake_of a b reads same live can told rowids = subst (CanRemakeOf reads) (sym same.0.now_is) (record {
  can = can;
  obeys = (live same.0.was_open).0;
  rowids = rowids;
  rows = rows_of a b can.has live reads (tables_of a.now.trees) told;
})

module _ (a b c : State) where
  pub shown_again : IsUnchanged b c → (read : FirstRows) → AreShown a b read → AreShown a c read
  shown_again same read told =
      shown_until (first_select_sql read.table) (first_reads read.table) a b c read.rows.items told same

  -- one more table is read
  pub read_on : (reads : List FirstRows) (read : FirstRows) → IsUnchanged a b → IsUnchanged b c
      → All (AreShown a b) reads → AreShown b c read → IsUnchanged a c × All (AreShown a c) (reads ++ read ∷ [])
  read_on reads read one two told here = (
    unchanged_then a b c one two,
    All-push (AreShown a c) reads read (All-weaker (AreShown a b) (AreShown a c) (shown_again two) reads told)
        (shown_since (first_select_sql read.table) (first_reads read.table) a b c read.rows.items one here),
  )

  other_since : IsUnchanged a b → a.faults ≤ b.faults → b.step_limit ≡ a.step_limit → (t : Table) → IsOtherFirst b c t
      → IsOtherFirst a c t
  other_since same more limit t = otherwise_since (first_select_sql t) (first_reads t) (AreFirst t) a b c same more limit

  pub read_stops : IsUnchanged a b → a.faults ≤ b.faults → b.step_limit ≡ a.step_limit → (t : Table) (f : MigrateFault)
      → FailsToRead b c t f → FailsToReadAll a c f
  read_stops same more limit t OtherTable h = (t, other_since same more limit t h)
  read_stops same more limit t Memory h =
      inr (t, memory_since (first_select_sql t) (first_reads t) a b c same more limit h)
  read_stops same more limit t Device h = device_since a b c same more h
  read_stops same more limit t UnknownVersion h = h
  read_stops same more limit t Rows h = h

  module _ (same : IsUnchanged a b) (more : a.faults ≤ b.faults) (limit : b.step_limit ≡ a.step_limit) where
    read_since : (reads : List FirstRows) → AreRead b.now reads → AreRead a.now reads
    read_since reads = subst (λ (d : Database). AreRead d reads) same.0.now_is

    pub fails_since : (reads : List FirstRows) (e : Error)
        → FailsFor (RefusesToRemake b.step_limit reads b.now) b c e → FailsFor (RefusesToRemake a.step_limit reads a.now) a c e
    fails_since reads e = fails_after (RefusesToRemake b.step_limit reads b.now) (RefusesToRemake a.step_limit reads a.now) a b
        c e (λ h. subst (λ (d : Database). RefusesToRemake a.step_limit reads d e) same.0.now_is
        (subst (λ l. RefusesToRemake l reads b.now e) limit h)) more same.0.is_open limit

    memory_read_since : FailsToReadAll b c Memory → FailsToReadAll a c Memory
    memory_read_since (inl still) = inl (unchanged_then a b c same still)
    memory_read_since (inr h) = inr (failure_since a b c first_select_sql first_reads same more limit Memory h)

    -- what is not renewed after questions was not since before them
    pub unrenewed_since : (f : MigrateFault) → IsUnrenewed b c f → IsUnrenewed a c f
    unrenewed_since OtherTable (inl other) =
        inl (λ is. other (subst (λ (d : Database). CanRemake d.schema) (sym same.0.now_is) is))
    unrenewed_since OtherTable (inr (inl (t, h))) = inr (inl (t, other_since same more limit t h))
    unrenewed_since OtherTable (inr (inr (reads, read, e, tells, inl h))) =
        inr (inr (reads, read_since reads read, e, tells, inl h))
    unrenewed_since OtherTable (inr (inr (reads, read, e, tells, inr h))) =
        inr (inr (reads, read_since reads read, e, tells, inr (fails_since reads e h)))
    unrenewed_since Rows (can, inl other) = (
      subst (λ (d : Database). CanRemake d.schema) same.0.now_is can,
      inl (subst (λ (d : Database). HaveOtherRowids d) same.0.now_is other),
    )
    unrenewed_since Rows (can, inr none) = (
      subst (λ (d : Database). CanRemake d.schema) same.0.now_is can,
      inr (λ k is. none k (subst (λ (d : Database). IsFirstContentOf (tables_of d.trees) k) (sym same.0.now_is) is)),
    )
    unrenewed_since Memory (inl h) = inl (memory_read_since h)
    unrenewed_since Memory (inr (inl h)) = inr (inl (failure_since a b c rowid_sql rowid_reads same more limit Memory h))
    unrenewed_since Memory (inr (inr (reads, read, sound, (e, tells, h)))) =
        inr (inr (reads, read_since reads read, sound, (e, tells, fails_since reads e h)))
    unrenewed_since Device h = device_since a b c same more h
    unrenewed_since UnknownVersion h = h

  pub renewed_since : IsUnchanged a b → IsRenewed b c → IsRenewed a c
  renewed_since same h = record {
    remade = subst (λ (d : Database). IsRemadeOf d c.now) same.0.now_is h.remade;
    renewed = subst (λ (d : Database). RenewsFrom d c.now.trees) same.0.now_is h.renewed;
    plan = h.plan;
    settled = h.settled;
    is_open = h.is_open;
  }

  module _ (same : IsUnchanged a b) (more : a.faults ≤ b.faults) (limit : b.step_limit ≡ a.step_limit)
      (reads : List FirstRows) (read : AreRead a.now reads) where
    pub failed_remake : HaveSound reads → (f : MigrateFault) → FailsToRemake reads b c f → IsUnrenewed a c f
    failed_remake sound OtherTable (e, tells, h) =
        inr (inr (reads, read, e, tells, inr (fails_since same more limit reads e h)))
    failed_remake sound Memory (e, tells, h) =
        inr (inr (reads, read, sound, (e, tells, fails_since same more limit reads e h)))
    failed_remake sound Device h = device_since a b c same more h
    failed_remake sound UnknownVersion (e, tells, h) = tells
    failed_remake sound Rows (e, tells, h) = absurd tells

-- rows that were read have no sound content
pub failed_hold : (a b : State) (reads : List FirstRows) → IsUnchanged a b → IsLive a → AreRead a.now reads
    → All (AreShown a b) reads → (f : MigrateFault) → FailToHold reads f → IsUnrenewed a b f
failed_hold a b reads same live read told OtherTable (e, tells, h) = inr (inr (reads, read, e, tells, inl h))
failed_hold a b reads same live read told Rows h =
    (read.can, inr (λ c is sound. h c (have_content a b reads live read.whole told read.can.has c is) sound))
failed_hold a b reads same live read told Memory h = inl (inl same)
failed_hold a b reads same live read told Device h = absurd h
failed_hold a b reads same live read told UnknownVersion h = h

pub failed_read : (a b : State) (f : MigrateFault) → FailsToReadAll a b f → IsUnrenewed a b f
failed_read a b OtherTable h = inr (inl h)
failed_read a b Memory h = inl h
failed_read a b Device h = h
failed_read a b UnknownVersion h = h
failed_read a b Rows h = absurd h

-- where the tables are not renewed, a plan of schema 1 is not migrated
pub unmigrated_first : (a b : State) (f : MigrateFault) → IsOfVersion FIRST_VERSION a → IsUnrenewed a b f
    → IsUnmigrated a b f
unmigrated_first a b OtherTable is h = inr (is, h)
unmigrated_first a b Rows is h = inr (is, h)
unmigrated_first a b Memory is h = inr (inr (is, h))
unmigrated_first a b Device is h = h
unmigrated_first a b UnknownVersion is h = absurd h

-- where the version is not told, a plan is not migrated
pub untold : (a b : State) (f : MigrateFault) → TellsVersion a b (Err f) → IsUnmigrated a b f
untold a b UnknownVersion h = h
untold a b Memory h = inl h
untold a b Device h = h
untold a b OtherTable h = absurd h
untold a b Rows h = absurd h

-- an error is told as a failure of the device where it is one
of_device : (e : Error) → fault_for e Unopened ≡ OpenFault.Device → IsTrue (is_of_device e)
of_device (SqliteFailure code.SystemIoFailure) is = refl
of_device (SqliteFailure code.DatabaseCorrupt) is = refl
of_device (SqliteFailure code.DiskFull) is = refl
of_device (SqliteFailure code.Closed) is = refl
of_device _ is = absurd cc

pub fails_to_remake : (a b : State) (reads : List FirstRows) (e : Error) (f : MigrateFault)
    → FailsFor (RefusesToRemake a.step_limit reads a.now) a b e → DeviceHasCause a b e → TellsOf e f
    → FailsToRemake reads a b f
fails_to_remake a b reads e OtherTable fails cause told = (e, told, fails)
fails_to_remake a b reads e Memory fails cause told = (e, told, fails)
fails_to_remake a b reads e Device fails cause told = cause (of_device e told)
fails_to_remake a b reads e UnknownVersion fails cause told = absurd told
fails_to_remake a b reads e Rows fails cause told = absurd told

-- tables in memory are not filled
pub unfilled : (reads : List FirstRows) (e : Error) (f : MigrateFault) → (e ≡ SqliteFailure code.OutOfMemory)
    ⊎ AreNotTaken reads e → TellsOf e f → FailToHold reads f
unfilled reads e OtherTable (inl is) told =
    let h : fault_for e Unopened ≡ OpenFault.Memory = ap (λ x. fault_for x Unopened) is in absurd cc
unfilled reads e OtherTable (inr h) told = (e, told, h)
unfilled reads e Memory h told = tt
unfilled reads e Device (inl is) told =
    let h : fault_for e Unopened ≡ OpenFault.Memory = ap (λ x. fault_for x Unopened) is in absurd cc
unfilled reads e Device (inr h) told =
    true≢false (sym (of_device e told) ∙ calm_fill None plan_schema (with_all_put reads no_rows) e h)
unfilled reads e UnknownVersion h told = told
unfilled reads e Rows h told = absurd told

pub tables_more : (reads : List FirstRows) (read : FirstRows) (tables : List Table) (i : ℕ) (d : Table) → i < length tables
    → tables_in reads ≡ take i tables → read.table ≡ get_or tables i d
    → tables_in (reads ++ read ∷ []) ≡ take (i + 1) tables
tables_more reads read tables i d low whole is = map-append (λ (it : FirstRows). it.table) reads (read ∷ [])
    ∙ (λ k. whole k ++ is k ∷ []) ∙ sym (take_more tables i d low)

-- ---- the tables are made anew after they were read

module _ {E : Type 0} (a b c : State) (reads : List FirstRows) (same : IsUnchanged a b) (live : IsLive a) (whole : AreWhole reads) where
  pub renewed_by : (r : Result (Unit {0}) E) → All (AreShown a b) reads → AreOfFirst (tables_of a.now.trees)
      → HaveSound reads → OnOk r (IsRemade reads b c) → OnOk r (IsRenewed a c)
  renewed_by (Ok v) told first sound h = record {
    remade = subst (λ (d : Database). IsRemadeOf d c.now) same.0.now_is h.remade;
    renewed = renews a b reads live whole told c.now.trees
        (subst (λ (d : Database). RemakesTo reads d c.now.trees) same.0.now_is h.made) first sound;
    plan = h.plan;
    settled = h.settled;
    is_open = h.is_open;
  }
  renewed_by (Err e) told first sound h = tt

pub unrenewed_by : (a b c : State) (reads : List FirstRows) → IsUnchanged a b → a.faults ≤ b.faults
    → b.step_limit ≡ a.step_limit → AreRead a.now reads → HaveSound reads → (r : Result (Unit {0}) MigrateFault)
    → IfErr r (FailsToRemake reads b c) → IfErr r (IsUnrenewed a c)
unrenewed_by a b c reads same more limit read sound (Ok v) h = tt
unrenewed_by a b c reads same more limit read sound (Err f) h = failed_remake a b c same more limit reads read sound f h

pub kept_by : {E : Type 0} (a b c : State) → IsUnchanged a b → (r : Result (Unit {0}) E) → OnErr r (IsKept b c)
    → OnErr r (IsKept a c)
kept_by a b c same (Ok v) h = tt
kept_by a b c same (Err e) h = kept_since a b c same h

-- ---- a plan is migrated

module _ (a b c : State) (v : ℕ) (told : IsKnownVersion v × ShowsVersion v a b) where
  same_since : IsUnchanged a b
  same_since = same_if_version a b v told.1

  pub current_migrated : v ≡ SCHEMA_VERSION → ChecksTables b c all_tables (Ok _) → IsMigrated a c v v
  current_migrated is h = inr (inl (
    is,
    is,
    subst (λ n. ShowsVersion n a c) is (version_until a b c v told.1 h.0),
    All-weaker (IsOfSchema b c) (IsOfSchema a c) (of_schema_since a b c same_since) all_tables h.1,
    kept_if_same a c (unchanged_then a b c same_since h.0),
  ))

  pub current_unmigrated : v ≡ SCHEMA_VERSION → a.faults ≤ b.faults → b.step_limit ≡ a.step_limit → (f : MigrateFault)
      → ChecksTables b c all_tables (Err f) → IsUnmigrated a c f
  current_unmigrated is more limit f h =
      unmigrated a b c (subst (λ n. ShowsVersion n a b) is told.1) more limit all_tables f h

  first_is : (v ≡ SCHEMA_VERSION → ⊥) → v ≡ FIRST_VERSION
  first_is other = elim told.0 [ inl is ↦ is | inr is ↦ absurd (other is) ]

  pub first_migrated : (v ≡ SCHEMA_VERSION → ⊥) → IsRenewed b c → IsMigrated a c v SCHEMA_VERSION
  first_migrated other h = inr (inr (first_is other, refl, renewed_since a b c same_since h))

  pub first_unmigrated : (v ≡ SCHEMA_VERSION → ⊥) → a.faults ≤ b.faults → b.step_limit ≡ a.step_limit
      → (f : MigrateFault) → IsUnrenewed b c f → IsUnmigrated a c f
  first_unmigrated other more limit f h = unmigrated_first a c f
      (subst (λ n. IsOfVersion n a) (first_is other) (of_version a b v told.1))
      (unrenewed_since a b c same_since more limit f h)

  -- and the rows of `plan_meta` tell so
  pub first_told : (v ≡ SCHEMA_VERSION → ⊥) → IsLive a → CanRemake b.now.schema → AreOfFirst (tables_of b.now.trees)
  first_told other live can =
      subst (λ (d : Database). AreOfFirst (tables_of d.trees)) (sym same_since.0.now_is)
      (of_first a b live (subst (λ n. ShowsVersion n a b) (first_is other) told.1)
      (subst (λ (d : Database). CanRemake d.schema) same_since.0.now_is can))

pub renews_since : (a b : State) (v : ℕ) → ShowsVersion v a b → (db : Trees) → MayRenew b db → MayRenew a db
renews_since a b v told db h = subst (λ (d : Database). RenewsFrom d db) (same_if_version a b v told).0.now_is h
