-- Questions in turn: each leaves the database as the next one finds it.
use Rattle.std.proofs.Common.{◌≡◌, ◌∙◌, ◌≤◌, ◌+◌, inl, inr, sym, subst, ℕ, List, [], Some, Option, Ok, Err, Result}
use Rattle.std.specs.List.{AllWithin, HoldsAt}
use Rattle.std.proofs.lemmas.List.Elements.{AllWithin-more}
use Rattle.std.specs.Prelude.{OnErr}
use Rattle.sqlite.specs.Clock.{timed}
use Rattle.sqlite.specs.Effect.{Database, RefusesToRead}
use Rattle.sqlite.specs.Listing.{IsSourceOf, reads_listing, understood}
use Rattle.sqlite.specs.Order.{Row}
use Rattle.sqlite.specs.State.{State, FailsToQuery, FailsToShow, IsNoStatement, IsNotRun, IsStatement, IsUnchanged}
use Rattle.sqlite.specs.State.{Shown, ShowsRows}
use Rattle.sqlite.specs.declared.error.Error.{Error}
use Rattle.sqlite_resolve.specs.declared.compiled.Compiled.{Compiled}
use Rattle.sqlite.proofs.Callers.{unchanged_then}
use Rattle.plan_tables_schema.specs.Texts.{select_sql}
use Rattle.plan_tables_schema.specs.declared.tables.Table.{Table}
use Rattle.plan_tables_opening.specs.Foreign.{LacksMemory, RefusesToShow, version_sql}
use Rattle.plan_tables_opening.specs.Queries.{IsReading}
use Rattle.plan_tables_loading.proofs.LookLemmas.{undone_since}
use Rattle.plan_tables_opening.proofs.ForeignLemmas.{version_reads}
use Rattle.plan_tables_opening.proofs.QueryLemmas.{refused_same, shown_same, shows_alone}
use Rattle.plan_tables_opening.specs.Kept.{IsKept}
use Rattle.plan_migrations.specs.Asking.{HasAnswer, IsFailureOfOne}
use Rattle.plan_migrations.specs.Migrating.{ChecksTable, ChecksTables, IsUnmigrated}
use Rattle.plan_tables_schema.specs.declared.tables.TheConstants.{SCHEMA_VERSION}
use Rattle.plan_migrations.specs.Schemas.{IsKnownVersion, IsOfSchema, IsOfVersion, IsOther, ShowsOther, ShowsSuch}
use Rattle.plan_migrations.specs.Schemas.{ShowsVersion, TellsVersion}
use Rattle.plan_migrations_remaking.specs.Types.{AreTyped}
use Rattle.plan_migrations.specs.declared.faults.MigrateFault.{MigrateFault}
use Rattle.plan_migrations.specs.declared.faults.MigrateFault.TheVariants.{UnknownVersion, OtherTable, Rows, Memory, Device}
use Rattle.plan_migrations.proofs.AskLemmas.{cause_since, device_since, has_answer}
use Rattle.plan_migrations.proofs.TextLemmas.{select_reads}

abbrev statement_since : (a b : State) (sql : List ℕ) (c : Compiled) → IsUnchanged a b → IsStatement b sql [] c
    → IsStatement a sql [] c
statement_since a b sql c same it = record {
  is = subst (λ (d : Database). understood d.schema sql ≡ Ok c) same.0.now_is it.is;
  whole = it.whole;
  given = it.given;
  now = it.now;
}

-- what it has to show after a question it had to show before
pub answer_since : (a b : State) (sql : List ℕ) (rows : List Row) → IsUnchanged a b → HasAnswer sql b rows
    → HasAnswer sql a rows
answer_since a b sql rows same h = (
  h.0,
  statement_since a b sql h.0 same h.1,
  h.2,
  subst (λ (d : Database). IsSourceOf (reads_listing d.schema sql) d h.2) same.0.now_is h.3,
  h.4,
)

module _ (sql : List ℕ) (reading : IsReading sql) (a b c : State) where
  -- what is shown after a question was shown before it
  pub shown_since : (rows : List Row) → IsUnchanged a b → Shown sql [] b c rows → Shown sql [] a c rows
  unfolding Shown
  shown_since rows same h =
      let alone = shows_alone sql reading b h.0 h.1 in
      let rest = subst (ShowsRows b c sql h.0 _ rows) alone h.2 in
      let it = statement_since a b sql h.0 same h.1 in (
        h.0,
        it,
        subst (ShowsRows a c sql h.0 _ rows) (sym alone) (
          rest.0,
          subst (λ (d : Database). IsSourceOf (reads_listing d.schema sql) d rest.0) same.0.now_is rest.1,
          rest.2,
          unchanged_then a b c same rest.3,
        ),
      )

  -- and is shown still after the next
  pub shown_until : (rows : List Row) → Shown sql [] a b rows → IsUnchanged b c → Shown sql [] a c rows
  unfolding Shown
  shown_until rows h same =
      let alone = shows_alone sql reading a h.0 h.1 in
      let rest = subst (ShowsRows a b sql h.0 _ rows) alone h.2 in (
        h.0,
        h.1,
        subst (ShowsRows a c sql h.0 _ rows) (sym alone) (
          rest.0,
          rest.1,
          rest.2,
          unchanged_then a b c rest.3 same,
        ),
      )

  fails_since : (e : Error) → IsUnchanged a b → a.faults ≤ b.faults → b.step_limit ≡ a.step_limit
      → FailsToQuery sql [] b c e → FailsToQuery sql [] a c e
  unfolding FailsToQuery IsNotRun
  fails_since e same more limit (inl (inl (none, after))) = inl (inl (
    subst (λ (d : Database). IsNoStatement (record b { now = d }) sql [] e) same.0.now_is none,
    unchanged_then a b c same after,
  ))
  fails_since e same more limit (inl (inr failed)) = inl (inr (
    failed.0,
    failed.1,
    cause_since a b c same more failed.0 failed.2,
    undone_since a b c same failed.3,
    failed.4,
  ))
  fails_since e same more limit (inr (comp, it, shows)) =
      let alone = shows_alone sql reading b comp it in
      let params = timed [] comp.formats it.now in
      let rest = subst (FailsToShow b c sql comp params e) alone shows in
      inr (
        comp,
        statement_since a b sql comp same it,
        subst (FailsToShow a c sql comp params e) (sym alone) (
          rest.0,
          subst (λ (d : Database). IsSourceOf (reads_listing d.schema sql) d rest.0) same.0.now_is rest.1,
          subst (λ l. RefusesToRead l comp.command rest.0 params e) limit rest.2,
          unchanged_then a b c same rest.3,
        ),
      )

  pub refused_since : IsUnchanged a b → a.faults ≤ b.faults → b.step_limit ≡ a.step_limit → RefusesToShow sql b c
      → RefusesToShow sql a c
  refused_since same more limit h = (h.0, fails_since h.0 same more limit h.1, h.2)

  pub memory_since : IsUnchanged a b → a.faults ≤ b.faults → b.step_limit ≡ a.step_limit → LacksMemory sql b c
      → LacksMemory sql a c
  memory_since same more limit h = (h.0, fails_since h.0 same more limit h.1, h.2)

module _ (sql : List ℕ) (reading : IsReading sql) (Such : List Row → Type 0) where
  pub same_if_such : (a b : State) → ShowsSuch sql Such a b → IsUnchanged a b
  same_if_such a b h = shown_same sql reading a b h.0 h.1

  pub same_if_otherwise : (a b : State) → ShowsOther sql Such a b → IsUnchanged a b
  same_if_otherwise a b (inl h) = refused_same sql reading a b h.0 h.1 h.2
  same_if_otherwise a b (inr h) = shown_same sql reading a b h.0 h.1

  module _ (a b c : State) where
    pub such_since : IsUnchanged a b → ShowsSuch sql Such b c → ShowsSuch sql Such a c
    such_since same h = (h.0, shown_since sql reading a b c h.0 same h.1, h.2)

    pub such_until : IsUnchanged b c → ShowsSuch sql Such a b → ShowsSuch sql Such a c
    such_until same h = (h.0, shown_until sql reading a b c h.0 h.1 same, h.2)

    pub otherwise_since : IsUnchanged a b → a.faults ≤ b.faults → b.step_limit ≡ a.step_limit → ShowsOther sql Such b c
        → ShowsOther sql Such a c
    otherwise_since same more limit (inl h) = inl (refused_since sql reading a b c same more limit h)
    otherwise_since same more limit (inr h) = inr (h.0, shown_since sql reading a b c h.0 same h.1, h.2)

module _ (a b : State) where
  pub same_if_version : (v : ℕ) → ShowsVersion v a b → IsUnchanged a b
  same_if_version v h = shown_same version_sql version_reads a b h.0 h.1

  -- and it is what the database has to show
  pub of_version : (v : ℕ) → ShowsVersion v a b → IsOfVersion v a
  of_version v h = (h.0, has_answer version_sql version_reads a b h.0 h.1, h.2)

  pub told_some : (found : Option ℕ) (v : ℕ) → found ≡ Some v → TellsVersion a b (Ok found)
      → IsKnownVersion v × ShowsVersion v a b
  told_some found v is h = subst (λ (o : Option ℕ). TellsVersion a b (Ok o)) is h

  pub same_if_of_schema : (t : Table) → IsOfSchema a b t → IsUnchanged a b
  same_if_of_schema t = same_if_such (select_sql t) (select_reads t) (AreTyped t) a b

module _ (a b c : State) where
  pub kept_since : IsUnchanged a b → IsKept b c → IsKept a c
  kept_since same kept = record {
    now = λ up. kept.now up ∙ same.0.now_is;
    committed = λ up. kept.committed up ∙ same.0.committed_is;
  }

  -- a question for one of the tables fails as it would have failed before the last
  pub failure_since : (sql : Table → List ℕ) → ((t : Table) → IsReading (sql t)) → IsUnchanged a b → a.faults ≤ b.faults
      → b.step_limit ≡ a.step_limit → (f : MigrateFault) → IsFailureOfOne sql b c f → IsFailureOfOne sql a c f
  failure_since sql reading same more limit Memory h =
      (h.0, memory_since (sql h.0) (reading h.0) a b c same more limit h.1)
  failure_since sql reading same more limit Device h = device_since a b c same more h
  failure_since sql reading same more limit UnknownVersion h = h
  failure_since sql reading same more limit OtherTable h = h
  failure_since sql reading same more limit Rows h = h

  pub version_since : (v : ℕ) → IsUnchanged a b → ShowsVersion v b c → ShowsVersion v a c
  version_since v same h = (h.0, shown_since version_sql version_reads a b c h.0 same h.1, h.2)

  pub version_until : (v : ℕ) → ShowsVersion v a b → IsUnchanged b c → ShowsVersion v a c
  version_until v h same = (h.0, shown_until version_sql version_reads a b c h.0 h.1 same, h.2)

  pub of_schema_since : IsUnchanged a b → (t : Table) → IsOfSchema b c t → IsOfSchema a c t
  of_schema_since same t = such_since (select_sql t) (select_reads t) (AreTyped t) a b c same

  of_schema_until : IsUnchanged b c → (t : Table) → IsOfSchema a b t → IsOfSchema a c t
  of_schema_until same t = such_until (select_sql t) (select_reads t) (AreTyped t) a b c same

  pub other_since : IsUnchanged a b → a.faults ≤ b.faults → b.step_limit ≡ a.step_limit → (t : Table) → IsOther b c t
      → IsOther a c t
  other_since same more limit t = otherwise_since (select_sql t) (select_reads t) (AreTyped t) a b c same more limit

  -- one more table is of its schema
  pub turned : (tables : List Table) (at : ℕ) → IsUnchanged a b × AllWithin (IsOfSchema a b) tables 0 at
      → HoldsAt (IsOfSchema b c) tables at → IsUnchanged b c
      → IsUnchanged a c × AllWithin (IsOfSchema a c) tables 0 (at + 1)
  turned tables at had holds same = (
    unchanged_then a b c had.0 same,
    AllWithin-more (IsOfSchema a c) tables 0 at (λ k d low high. of_schema_until same _ (had.1 k d low high))
        (λ d. of_schema_since had.0 _ (holds d)),
  )

  -- a table that is not of its schema ends the loop, and so does a failure
  pub stops : IsUnchanged a b → a.faults ≤ b.faults → b.step_limit ≡ a.step_limit → (tables : List Table) (t : Table)
      (f : MigrateFault) → ChecksTable b c t (Err f) → ChecksTables a c tables (Err f)
  stops same more limit tables t OtherTable h = (t, other_since same more limit t h)
  stops same more limit tables t Memory h = (t, memory_since (select_sql t) (select_reads t) a b c same more limit h)
  stops same more limit tables t Device h = device_since a b c same more h
  stops same more limit tables t UnknownVersion h = h
  stops same more limit tables t Rows h = h

  -- and what it was begun for
  pub unmigrated : ShowsVersion SCHEMA_VERSION a b → a.faults ≤ b.faults → b.step_limit ≡ a.step_limit
      → (tables : List Table) (f : MigrateFault) → ChecksTables b c tables (Err f) → IsUnmigrated a c f
  unmigrated known more limit tables OtherTable h =
      let same = same_if_version a b SCHEMA_VERSION known in
      inl (
        version_until SCHEMA_VERSION known
            (same_if_otherwise (select_sql h.0) (select_reads h.0) (AreTyped h.0) b c h.1),
        (h.0, other_since same more limit h.0 h.1),
      )
  unmigrated known more limit tables Memory h =
      let same = same_if_version a b SCHEMA_VERSION known in
      inr (inl (of_version a b SCHEMA_VERSION known, failure_since select_sql select_reads same more limit Memory h))
  unmigrated known more limit tables Device h = device_since a b c (same_if_version a b SCHEMA_VERSION known) more h
  unmigrated known more limit tables UnknownVersion h = absurd h
  unmigrated known more limit tables Rows h = absurd h

-- what holds holds where there is an error
pub in_error : {T E X : Type 0} (r : Result T E) → X → OnErr r X
in_error (Ok v) x = tt
in_error (Err e) x = x
