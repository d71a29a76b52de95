-- The version of a plan is shown.
use Rattle.std.proofs.Common.{◌≡◌, ◌⊎◌, ◌∙◌, ap, inl, inr, refl, subst, sym, true, ℕ, List, [], ◌∷◌, map, Option, Some, None}
use Rattle.std.specs.Prelude.{Result, Ok, Err, IfOk, IfErr, IsSome, codes}
use Rattle.std.specs.List.{Contains}
use Rattle.std.specs.List.Sorted.{IsPermutation}
use Rattle.std.proofs.lemmas.List.Sorted.{Contains-permutation}
use Rattle.sqlite_keyed.proofs.ListLemmas.{all_of, filter_all}
use Rattle.sqlite.specs.Order.{Row as Values, column}
use Rattle.sqlite.specs.State.{IsLive, Shown, State}
use Rattle.sqlite.specs.Term.{Term, col, eval_all}
use Rattle.sqlite_schema.specs.declared.schema.Schema.{Schema}
use Rattle.sqlite_trees.specs.Objects.{catalog_tree}
use Rattle.sqlite_tied.specs.Compute.{everything}
use Rattle.plan_store_lists.proofs.KeyLemmas.{contains_cases, nothing}
use Rattle.plan_tables_schema.specs.Places.{TableIsAt}
use Rattle.plan_tables_schema.specs.Rows.{shown, tables_of}
use Rattle.plan_tables_schema.specs.Schema.{HasTables, name, table_at}
use Rattle.plan_tables_schema.specs.declared.tables.Table.TheVariants as table
use Rattle.plan_tables_schema.specs.declared.tables.TheConstants.{SCHEMA_VERSION}
use Rattle.plan_tables_schema.proofs.ColumnQueries.{IsBareSelect, ShowsColumns, columns_show}
use Rattle.plan_tables_schema.proofs.NamedLemmas.{tree_is}
use Rattle.plan_tables_schema.proofs.QueryMeanings.{ShowsRows}
use Rattle.plan_tables_schema.proofs.ShownLemmas.{shows_all, stays}
use Rattle.plan_tables_schema.proofs.StatementLemmas.{text_fails, text_reads}
use Rattle.plan_tables_content.specs.Facts.{natural}
use Rattle.plan_tables_opening.specs.Foreign.{RefusesVersion, version_sql}
use Rattle.plan_tables_opening.specs.Held.{AreKnown, HoldsPlan}
use Rattle.plan_tables_opening.proofs.ForeignLemmas.{version_reads}
use Rattle.plan_tables_opening.proofs.QueryLemmas.{other_cause}
use Rattle.plan_tables_opening.proofs.SoundLemmas.{sound_is_known}
use Rattle.plan_tables_opening.proofs.StoredLemmas.{still_known}
use Rattle.plan_tables_loading.specs.Reading.{HasPlan}
use Rattle.plan_migrations_remaking.specs.FirstSchema.{CanRemake, first_shown, first_table_at}
use Rattle.plan_migrations.specs.Asking.{IsFailure}
use Rattle.plan_migrations.specs.FirstContent.{AreOfFirst}
use Rattle.plan_migrations.specs.Schemas.{AreOf, IsKnownVersion, ShowsVersion, TellsVersion}
use Rattle.plan_migrations.specs.declared.faults.MigrateFault.{MigrateFault}
use Rattle.plan_migrations.specs.declared.faults.MigrateFault.TheVariants.{UnknownVersion, OtherTable, Rows, Memory, Device}
use Rattle.plan_migrations.specs.declared.versions.TheConstants.{FIRST_VERSION}
use Rattle.plan_migrations.proofs.ContentLemmas.{mapped, maps}

-- ---- what it shows

abbrev version_columns : List (List ℕ)
version_columns = codes "version" ∷ codes "version" ∷ []

abbrev version_terms : List Term
version_terms = col 1 2 ∷ col 1 2 ∷ []

version_says : IsBareSelect (name table.Meta) version_sql version_columns
unfolding everything
version_says = (refl, refl, refl, refl, refl, refl)

version_fits : (tree : ℕ) → ShowsColumns (table_at tree table.Meta) version_columns version_terms
unfolding everything
version_fits tree = (refl, refl, refl, refl, refl)

versions : (schema : Schema) (tree at : ℕ) → TableIsAt schema (table_at tree table.Meta) at
    → ShowsRows schema version_sql tree version_terms version_columns
versions schema tree at it = columns_show schema (table_at tree table.Meta) at it version_sql version_columns
    version_terms version_says (version_fits tree)

abbrev version_shown : Values → Values
version_shown row = eval_all version_terms ([] ∷ row ∷ [])

shown_known : (rows : List Values) → AreKnown (map (shown table.Meta) rows) → AreKnown (map version_shown rows)
shown_known [] (w, is, known) = absurd (let h : ⊥ = cc in h)
shown_known (r ∷ []) (w, is, known) =
    let first' : shown table.Meta r ≡ w = cc in
    (version_shown r, refl, ap (λ (v : Values). column v 1) first' ∙ known)
shown_known (r ∷ s ∷ rs) (w, is, known) = absurd (let h : ⊥ = cc in h)

module _ (old new : State) (holds : HoldsPlan old) (live : IsLive old) where
  known_rows : HasTables old.now.schema → (rows : List Values) → Shown version_sql [] old new rows → AreKnown rows
  known_rows has rows h =
      let same = text_reads table.Meta version_sql version_terms version_columns old new has
      (versions old.now.schema (has.trees table.Meta) (has.at table.Meta) (has.stands table.Meta)) rows live h in
      (still_known _ rows same).1 (shown_known _ (sound_is_known _ holds.1))

  first_is_other : (rows : List Values) → AreKnown rows → AreOf FIRST_VERSION rows → ⊥
  first_is_other rows (a, is, known) (b, is', one) =
      let same : a ≡ b = cc in
      let two : natural SCHEMA_VERSION ≡ natural FIRST_VERSION = sym known ∙ ap (λ (v : Values). column v 1) same ∙ one in
      cc

  told_some : HasTables old.now.schema → (v : ℕ) → IsKnownVersion v → (rows : List Values)
      → Shown version_sql [] old new rows → AreOf v rows → v ≡ SCHEMA_VERSION
  told_some has v (inl first') rows shows is =
      absurd (first_is_other rows (known_rows has rows shows) (subst (λ n. AreOf n rows) first' is))
  told_some has v (inr same) rows shows is = same

  refused : HasTables old.now.schema → RefusesVersion old new → IsSome old.step_limit
  refused has (e, fails, other) =
      elim (text_fails table.Meta version_sql version_terms version_columns old new has
      (versions old.now.schema (has.trees table.Meta) (has.at table.Meta) (has.stands table.Meta)) e fails) [
        | inl cause ↦ absurd (other_cause version_sql version_reads old new e cause.0 cause.1 cause.2 other)
        | inr limit ↦ limit.1
      ]

  has_tables : HasTables old.now.schema
  unfolding HasPlan
  has_tables = holds.0

  told_known : (found : Option ℕ) → TellsVersion old new (Ok found)
      → (found ≡ Some SCHEMA_VERSION) ⊎ IsSome old.step_limit
  told_known None h = inr (refused has_tables h)
  told_known (Some v) (known, shows) =
      inl (ap (λ n. Some n) (told_some has_tables v known shows.0 shows.1 shows.2))

  told_failed : (fault : MigrateFault) → TellsVersion old new (Err fault) → IsFailure version_sql old new fault
  told_failed UnknownVersion (rows, shows, other) =
      absurd (other SCHEMA_VERSION (inr refl) (known_rows has_tables rows shows))
  told_failed OtherTable h = h
  told_failed Memory h = h
  told_failed Device h = h
  told_failed Rows h = h

  pub ok_told : (r : Result (Option ℕ) MigrateFault) → TellsVersion old new r
      → IfOk r (λ found. (found ≡ Some SCHEMA_VERSION) ⊎ IsSome old.step_limit)
  ok_told (Ok found) h = told_known found h
  ok_told (Err fault) h = tt

  pub err_told : (r : Result (Option ℕ) MigrateFault) → TellsVersion old new r → IfErr r (IsFailure version_sql old new)
  err_told (Ok found) h = tt
  err_told (Err fault) h = told_failed fault h

-- ---- that of a plan of schema 1

-- the one row that is shown is that of `plan_meta`
pub of_first : (old new : State) → IsLive old → ShowsVersion FIRST_VERSION old new → CanRemake old.now.schema
    → AreOfFirst (tables_of old.now.trees)
of_first old new live (rows, shows, (cells, alone, one)) can v there =
    let schema = old.now.schema in
    let has = can.has in
    let tree = has.trees table.Meta in
    let means = versions schema tree (has.at table.Meta) (has.stands table.Meta) in
    let all = tables_of old.now.trees table.Meta in
    let was = old.now.trees tree in
    let sound = (live (stays schema version_sql tree version_terms version_columns means old new rows refl shows).0.was_open).0 in
    let told = tree_is schema (first_table_at tree table.Meta) (has.at table.Meta) (old.now.trees catalog_tree)
    (has.stands table.Meta) sound.lists.listed in
    let same : IsPermutation (map version_shown all) rows =
    subst (λ all. IsPermutation (map version_shown all) rows) (sym (ap old.now.trees told))
    (subst (λ all. IsPermutation (map version_shown all) rows) (filter_all (λ _. true) was (all_of _ (λ _. refl) was))
    (shows_all schema version_sql tree version_terms version_columns means (has.stands table.Meta).stored old new rows refl
    shows)) in
    let (row, has_row, is) = mapped (first_shown table.Meta) all v there in
    let found = subst (λ l. Contains l (version_shown row)) alone (Contains-permutation (map version_shown all) rows
    (version_shown row) same (maps version_shown all row has_row)) in
    ap (λ (w : Values). column w 1) (sym is) ∙ elim (contains_cases cells (version_shown row) [] found) [
      | inl first' ↦ ap (λ (w : Values). column w 1) (sym first') ∙ one
      | inr rest ↦ absurd (nothing (version_shown row) rest)
    ]
