-- The rowids of the tables of schema 1 that stay.
use Rattle.std.proofs.Common.{◌≡◌, ◌≤◌, ◌+◌, ap, inl, inr, refl, subst, sym, true≢false, ℕ, List, [], ◌∷◌, map, false, true}
use Rattle.std.specs.Prelude.{Err}
use Rattle.std.specs.List.{All, AllWithin, HoldsAt}
use Rattle.std.specs.List.Sorted.{IsPermutation}
use Rattle.std.proofs.lemmas.List.Elements.{AllWithin-more}
use Rattle.sqlite.specs.Effect.{Database}
use Rattle.sqlite.specs.Order.{Row}
use Rattle.sqlite.specs.State.{IsLive, IsUnchanged, Shown, State}
use Rattle.sqlite_keyed.proofs.ListLemmas.{all_of, filter_all}
use Rattle.sqlite_schema.specs.declared.schema.Schema.{Schema}
use Rattle.sqlite_trees.specs.Objects.{catalog_tree}
use Rattle.plan_tables_schema.proofs.NamedLemmas.{tree_is}
use Rattle.plan_tables_schema.proofs.QueryMeanings.{ShowsRows}
use Rattle.plan_tables_schema.proofs.ShownLemmas as shown
use Rattle.plan_tables_schema.proofs.StopLemmas.{vain_since}
use Rattle.plan_tables_schema.specs.Places.{TableIsAt}
use Rattle.plan_tables_schema.specs.Rows.{HaveRowids, tables_of}
use Rattle.plan_tables_schema.specs.Schema.{all_tables, table_at}
use Rattle.plan_tables_schema.specs.declared.tables.Table.{Table}
use Rattle.plan_tables_schema.specs.declared.tables.Table.TheVariants.{LinkInForce, Predecessor}
use Rattle.plan_migrations_remaking.specs.FirstSchema.{HasFirstTables, first_table_at, is_changed}
use Rattle.plan_migrations_remaking.specs.Remaking.{HaveStayingRowids}
use Rattle.plan_migrations_remaking.specs.declared.rows.FirstRows.{FirstRows}
use Rattle.plan_tables_opening.specs.Foreign.{RefusesToShow}
use Rattle.plan_tables_opening.specs.Rowids.{rowid_shown, rowid_sql, rowid_terms}
use Rattle.plan_tables_opening.proofs.RowidTexts.{rowid_name, rowids}
use Rattle.plan_migrations.specs.Migrating.{AreRead, ChecksAllRowids, ChecksRowids, HaveOtherRowids, IsUnrenewed}
use Rattle.plan_migrations.specs.declared.faults.MigrateFault.{MigrateFault}
use Rattle.plan_migrations.specs.declared.faults.MigrateFault.TheVariants.{UnknownVersion, OtherTable, Rows, Memory, Device}
use Rattle.plan_migrations.proofs.AskLemmas.{device_since}
use Rattle.plan_migrations.proofs.ReadLemmas.{each}
use Rattle.plan_migrations.proofs.TextLemmas.{rowid_reads}
use Rattle.plan_migrations.proofs.TurnLemmas.{failure_since, memory_since}

-- a table that stays is described in schema 2 as in schema 1
stands_so : (schema : Schema) (tree at : ℕ) (t : Table) → is_changed t ≡ false
    → TableIsAt schema (first_table_at tree t) at → TableIsAt schema (table_at tree t) at
stands_so schema tree at Predecessor h it = absurd (true≢false h)
stands_so schema tree at LinkInForce h it = absurd (true≢false h)
stands_so schema tree at t h it = it

module _ (t : Table) (old new : State) (other : is_changed t ≡ false) (has : HasFirstTables old.now.schema) where
  stands : TableIsAt old.now.schema (table_at (has.trees t) t) (has.at t)
  stands = stands_so old.now.schema (has.trees t) (has.at t) t other (has.stands t)

  means : ShowsRows old.now.schema (rowid_sql t) (has.trees t) rowid_terms (rowid_name t ∷ [])
  means = rowids old.now.schema (has.trees t) (has.at t) t stands

  -- the rowids are those of its rows
  pub reads_rowids : (rows : List Row) → IsLive old → Shown (rowid_sql t) [] old new rows
      → IsPermutation (map rowid_shown (tables_of old.now.trees t)) rows
  reads_rowids rows live h =
      let schema = old.now.schema in
      let same = shown.stays schema (rowid_sql t) (has.trees t) rowid_terms (rowid_name t ∷ []) means old new rows refl h in
      let sound = (live same.0.was_open).0 in
      let told = tree_is schema (table_at (has.trees t) t) (has.at t) (old.now.trees catalog_tree) stands sound.lists.listed in
      let was = old.now.trees (has.trees t) in
      subst (λ all. IsPermutation (map rowid_shown all) rows) (sym (ap old.now.trees told))
      (subst (λ all. IsPermutation (map rowid_shown all) rows) (filter_all (λ _. true) was (all_of _ (λ _. refl) was))
      (shown.shows_all schema (rowid_sql t) (has.trees t) rowid_terms (rowid_name t ∷ []) means stands.stored old new rows
      refl h))

  -- the question is refused for a limit on steps alone
  pub refused_rowids : RefusesToShow (rowid_sql t) old new → ChecksRowids old new t (Err OtherTable)
  refused_rowids (e, fails, tells) = (
    e,
    tells,
    shown.fails old.now.schema (rowid_sql t) (has.trees t) rowid_terms (rowid_name t ∷ []) means old new e refl fails,
  )

-- ---- one after the other

abbrev pub HasRowids : State → Table → Type 0
HasRowids s t = is_changed t ≡ false → HaveRowids (tables_of s.now.trees t)

module _ (a b c : State) where
  rowids_since : IsUnchanged a b → (t : Table) → HasRowids b t → HasRowids a t
  rowids_since same t = subst (λ (d : Database). is_changed t ≡ false → HaveRowids (tables_of d.trees t)) same.0.now_is

  pub rowids_on : (tables : List Table) (at : ℕ) → IsUnchanged a b → AllWithin (HasRowids a) tables 0 at
      → HoldsAt (HasRowids b) tables at → AllWithin (HasRowids a) tables 0 (at + 1)
  rowids_on tables at same had holds = AllWithin-more (HasRowids a) tables 0 at had (λ d. rowids_since same _ (holds d))

  module _ (same : IsUnchanged a b) (more : a.faults ≤ b.faults) (limit : b.step_limit ≡ a.step_limit) where
    pub rowids_stop : (tables : List Table) (t : Table) (f : MigrateFault) → ChecksRowids b c t (Err f)
        → ChecksAllRowids a c tables (Err f)
    rowids_stop tables t Rows h = subst (λ (d : Database). HaveOtherRowids d) same.0.now_is h
    rowids_stop tables t OtherTable (e, tells, may) = (e, tells, vain_since a b c e more (λ _. same.0.is_open) limit may)
    rowids_stop tables t Memory h = (t, memory_since (rowid_sql t) (rowid_reads t) a b c same more limit h)
    rowids_stop tables t Device h = device_since a b c same more h
    rowids_stop tables t UnknownVersion h = h

    -- rows that were read aren't renewed then
    pub unread : (reads : List FirstRows) → AreRead a.now reads → (tables : List Table) (f : MigrateFault)
        → ChecksAllRowids b c tables (Err f) → IsUnrenewed a c f
    unread reads read tables Rows h = (read.can, inl (subst (λ (d : Database). HaveOtherRowids d) same.0.now_is h))
    unread reads read tables OtherTable (e, tells, may) =
        inr (inr (reads, read, e, tells, inr (inl (vain_since a b c e more (λ _. same.0.is_open) limit may))))
    unread reads read tables Memory h = inr (inl (failure_since a b c rowid_sql rowid_reads same more limit Memory h))
    unread reads read tables Device h = device_since a b c same more h
    unread reads read tables UnknownVersion h = h

-- all that stay
pub staying : (a b : State) → IsUnchanged a b → All (HasRowids b) all_tables → HaveStayingRowids (tables_of a.now.trees)
staying a b same all t other = subst (λ (d : Database). HaveRowids (tables_of d.trees t)) same.0.now_is
    (each (HasRowids b) all t other)
