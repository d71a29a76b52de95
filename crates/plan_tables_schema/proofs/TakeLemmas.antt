-- Rows that the table takes are put in, but for the common causes of a failure.
use Rattle.std.proofs.Common.{◌≡◌, ◌≢◌, ◌⊎◌, ◌&&◌, ◌||◌, ◌++◌, ◌/◌, ◌∙◌, ℕ, zero, suc, Bool, true, false}
use Rattle.std.proofs.Common.{inl, inr, List, [], ◌∷◌, length, map, nat_lt, length-append, append-nil, Option, Some, None, IsSome, IsTrue}
use Rattle.std.proofs.Common.{Ok, Err, refl, sym, ap, subst, arith, true≢false, cond, ◌==◌}
use Rattle.std.proofs.lemmas.Bool.Decides.{nat_tests}
use Rattle.std.specs.Ordering.{is_ne}
use Rattle.std.specs.List.{AllByRecursion, flat_map, list_all, list_any}
use Rattle.std.proofs.lemmas.Bool.{and_from, and_parts, both_ways, cases_eq, eqb-true, false_from_ne_true, not_from_false}
use Rattle.std.proofs.lemmas.Bool.{or_cases, or_left, or_right}
use Rattle.std.proofs.lemmas.Cmp.{tied_itself}
use Rattle.std.proofs.lemmas.List.Elements.{recursion_from_All}
use Rattle.sqlite.specs.Command.{Command}
use Rattle.sqlite.specs.Command.TheVariants.{Insert}
use Rattle.sqlite.specs.Does.{Does, OnRows}
use Rattle.sqlite.specs.Effect.{IsDatabase, value_rows}
use Rattle.sqlite.specs.Edit.{Applies, Edit, edit_of}
use Rattle.sqlite.specs.Listing.{understood}
use Rattle.sqlite.specs.Order.{Row}
use Rattle.sqlite.specs.Term.{Term}
use Rattle.sqlite.specs.Rowids.TheVariants.{Chosen}
use Rattle.sqlite.specs.Rows.{Inserts, Task, Written}
use Rattle.sqlite.specs.Schema.{Schema}
use Rattle.sqlite.specs.Source.TheVariants.{Values}
use Rattle.sqlite.specs.State.{State, ExecutesInside}
use Rattle.sqlite.specs.Table.{Table as Described}
use Rattle.sqlite.specs.Tree.{Trees, put_row, rowid}
use Rattle.sqlite.specs.declared.error.Error.{Error}
use Rattle.sqlite.specs.declared.error.Error.TheVariants.{SqliteFailure}
use Rattle.sqlite.specs.declared.error.ErrorCode.TheVariants.{OperationInterrupted}
use Rattle.sqlite.specs.declared.run.Mode.{Mode}
use Rattle.sqlite.specs.declared.types.Value.{Value}
use Rattle.sqlite.specs.declared.types.Value.TheVariants.{Int}
use Rattle.sqlite.proofs.Callers.{one_step, statement_of}
use Rattle.sqlite_keyed.proofs.ListLemmas.{all-append, test_from_all}
use Rattle.sqlite_rules.proofs.ListLemmas.{all_from, all_has, some_from, some_has}
use Rattle.sqlite_rules.proofs.RuleLemmas.{refers_at}
use Rattle.sqlite_rules.proofs.TableLemmas.{put_all_keeps, put_has}
use Rattle.sqlite_rules.specs.Action.{Leads, Settles, Writes, works}
use Rattle.sqlite_rules.specs.Edit.{IsOversized, IsRefused, are_fresh, edited, id_in, next_rowid, numbered, put_all, with_rowid}
use Rattle.sqlite_rules.specs.Lists.{Has}
use Rattle.sqlite_rules.specs.declared.error.Refusal.{Refusal}
use Rattle.sqlite_rules.specs.declared.error.Refusal.TheVariants.{Violates, Mismatch, NoRowid, BadReference, TooDeep}
use Rattle.sqlite_schema.specs.Rules.{Keeps, Refers, agree, clashes, differ, guards, has_null, has_parent, index_reals, is_held, parent_key, passes, references_fit, table_reals}
use Rattle.sqlite_schema.specs.declared.schema.Among.TheVariants.{All as Whole}
use Rattle.sqlite_schema.specs.declared.schema.Constraint.TheVariants.{Datatype, NotNull, Check, PrimaryKey, Unique, ForeignKey}
use Rattle.sqlite_schema.specs.declared.schema.Index.{Index}
use Rattle.sqlite_schema.specs.declared.schema.Keys.TheVariants.{Enforced}
use Rattle.sqlite_sql.specs.Catalog.{entry_of}
use Rattle.sqlite_typing.specs.Types.{accepts_terms}
use Rattle.sqlite_sql.specs.Ops.{binary, fits_i64, is_null}
use Rattle.sqlite_trees.specs.Tree.{with_tree}
use Rattle.sqlite_trees.specs.View.{IsStorable, is_int}
use Rattle.sqlite_value.proofs.OrderLemmas.{value_cmp_total}
use Rattle.sqlite_value.specs.Keys.{plain}
use Rattle.sqlite_value.specs.Order.{value_cmp}
use Rattle.plan_tables_schema.specs.Cells.{width}
use Rattle.plan_tables_schema.specs.Rows.{AreOfKinds, MayFail, Stands, Tables, stored, tables_of, with_cells, with_several}
use Rattle.plan_tables_schema.specs.Accepted.{AcceptsInTurn, AcceptsRow, HasNone, IsSoundPlan, new_row}
use Rattle.plan_tables_schema.specs.declared.tables.Table.{Table}
use Rattle.plan_tables_schema.specs.declared.tables.Table.TheVariants.{RunCycle}
use Rattle.plan_tables_schema.specs.declared.tables.Table.TheVariants.{Offset}
use Rattle.plan_tables_schema.proofs.CycleLemmas.{compared_parts}
use Rattle.plan_tables_schema.proofs.StopLemmas.{IsOrdinary, in_vain, same_error, some_same, stopped}
use Rattle.plan_tables_schema.proofs.Steps.{same_value}
use Rattle.sqlite_schema.specs.Rules.{is_index_for, is_key_of}
use Rattle.std.proofs.lemmas.Bool.{eq-eqb}
use Rattle.sqlite_catalog.specs.Listing.{IsGuarded, automatic}
use Rattle.sqlite_rules.proofs.RuleLemmas.{same_table}
use Rattle.sqlite_value.specs.Keys.{joined}
use Rattle.plan_tables_schema.specs.Schema.{HasOnlyKeyIndexes, HasTables, IsKeyIndex, references, table_at, to_run_cycle}
use Rattle.plan_tables_schema.proofs.CycleLemmas.{name_order}
use Rattle.plan_tables_schema.proofs.FitLemmas.{IsBindable, accepted, can_be_bound}
use Rattle.plan_tables_schema.proofs.MeaningLemmas.{IsWhole}
use Rattle.plan_tables_schema.proofs.RowLemmas.{put_is_placed}
use Rattle.plan_tables_schema.proofs.SeveralLemmas.{PutsRows, sources}
use Rattle.plan_tables_schema.proofs.EffectLemmas.{none_taken}
use Rattle.plan_tables_schema.proofs.NamedLemmas.{rows_are}
use Rattle.plan_tables_schema.proofs.StatementLemmas.{inserted, put_soundly, same_rows}
use Rattle.plan_tables_schema.proofs.PlanLemmas.{offsets_refer}
use Rattle.plan_tables_schema.proofs.RunCycleLemmas.{key_is}
use Rattle.plan_tables_schema.proofs.StillLemmas.{is_listed, refers_still, unique_still}

differs_not : (v : Value) → differ v v ≡ true → ⊥
unfolding binary
differs_not v h =
    let parts = compared_parts (is_null v || is_null v) (is_ne (value_cmp v v)) h in
    true≢false (sym parts.1 ∙ ap is_ne (tied_itself value_cmp_total v))

-- with one tree changed
pub at_own : (db : Trees) (n : ℕ) (rows : List Row) → with_tree db n rows n ≡ rows
at_own db n rows = ap (λ b. cond b rows (db n)) (is n)
  where
    is : (n : ℕ) → (n == n) ≡ true
    is n = grind (arith, nat_tests)

pub at_other : (db : Trees) (m n : ℕ) (rows : List Row) → m ≢ n → with_tree db n rows m ≡ db m
at_other db m n rows apart = go (m == n) refl
  where
    go : (b : Bool) → (m == n) ≡ b → cond b rows (db m) ≡ db m
    go true e = absurd (apart (grind (arith, nat_tests)))
    go false e = refl

pub in_plain_order : name_order ≡ plain
unfolding joined
in_plain_order = refl

parent_is : (schema : Schema) (it : HasTables schema) → parent_key schema.tables to_run_cycle ≡ Some (it.trees RunCycle, 1 ∷ 2 ∷ [], plain)
parent_is schema it = key_is schema (it.at RunCycle) (it.trees RunCycle) (it.trees Offset) (it.stands RunCycle) (is_listed schema it RunCycle) it.apart (offsets_refer schema it) ∙ ap (λ o. Some (it.trees RunCycle, 1 ∷ 2 ∷ [], o)) in_plain_order

module _ (schema : Schema) (it : HasTables schema) (own : AllByRecursion (IsKeyIndex it.trees) schema.indexes) (t : Table) (cells : Row)
    (db : Trees) (accepts : AcceptsRow t cells (λ u. db (it.trees u))) where
  abbrev was : List Row
  was = db (it.trees t)

  abbrev row : Row
  row = new_row t cells (λ u. db (it.trees u))

  is_fresh : are_fresh was (row ∷ []) ≡ true
  is_fresh = and_from _ _ (not_from_false _ accepts.fresh) refl

  none_agrees : (i : Index) → Has schema.indexes i → i.table ≡ it.trees t → (other : Row) → Has was other
      → agree i.order i.columns other i.columns row ≡ false
  none_agrees i listed there other has =
      let key = all_has (IsKeyIndex it.trees) schema.indexes i own listed t there in
      subst (λ o. agree o i.columns other i.columns row ≡ false) (sym key.1) (all_has (λ other. agree plain i.columns
      other i.columns row ≡ false) was other (subst (AllByRecursion (HasNone was row)) key.0 accepts.unique).0 has)

  tree_tells : it.trees Offset ≡ it.trees t → table_at (it.trees Offset) Offset ≡ table_at (it.trees t) t
  tree_tells same = same_table schema.tables _ _ it.apart (is_listed schema it Offset) (is_listed schema it t) same

  module _ (next : Trees) (here : next (it.trees t) ≡ put_row row was)
      (others : (d : Described) → Has schema.tables d → d.tree ≢ it.trees t → next d.tree ≡ db d.tree) where
    from : (r : Row) → Has (next (it.trees t)) r → Has (row ∷ []) r ⊎ Has was r
    from r has = elim (put_has row was r (subst (λ rows. Has rows r) here has)) [
      | inl same ↦ inl (inl same)
      | inr kept ↦ inr kept
    ]

    unlike : (i : Index) → Has schema.indexes i → i.table ≡ it.trees t → (other : Row)
        → Has (row ∷ []) other ⊎ Has was other → agree i.order i.columns other i.columns row ≡ true
        → differ (rowid other) (rowid row) ≡ true → ⊥
    unlike i listed at other (inl (inl same)) agrees differs =
        differs_not (rowid row) (subst (λ o. differ (rowid o) (rowid row) ≡ true) same differs)
    unlike i listed at other (inl (inr none)) agrees differs = none
    unlike i listed at other (inr kept) agrees differs = both_ways _ (none_agrees i listed at other kept) agrees

    free : (i : Index) → Has schema.indexes i → guards i (table_at (it.trees t) t) ≡ true → (r : Row) → Has (row ∷ []) r
        → clashes i.order i.columns (next (it.trees t)) r ≡ false
    free i listed on r (inr none) = absurd none
    free i listed on r (inl same) = subst (λ r. clashes i.order i.columns (next (it.trees t)) r ≡ false) (sym same)
        (false_from_ne_true _ (λ clash.
        let other = some_has (λ (o : Row). agree i.order i.columns o i.columns row && differ (rowid o) (rowid row))
        (next (it.trees t)) clash in
        let parts = and_parts _ _ other.2 in
        unlike i listed (eqb-true _ _ (and_parts _ _ on).1) other.0 (from other.0 other.1) parts.0 parts.1))

    pub unique_after : Keeps Unique schema db → Keeps Unique schema next
    unique_after keeps = unique_still schema (table_at (it.trees t) t) (is_listed schema it t) it.apart db next (row ∷ []) others from free keeps

    kept_parent : (p : Row) → Has (db (it.trees RunCycle)) p → Has (next (it.trees RunCycle)) p
    kept_parent p has = elim (cases_eq (it.trees RunCycle) (it.trees t)) [
      | inl same ↦ subst (λ n. Has (next n) p) (sym same) (subst (λ rows. Has rows p) (sym here) (put_all_keeps
          (row ∷ []) was p is_fresh (subst (λ n. Has (db n) p) same has)))
      | inr other ↦ subst (λ rows. Has rows p) (sym (others (table_at (it.trees RunCycle) RunCycle) (is_listed schema it RunCycle) other)) has
    ]

    held : (r p : Row) → Has (db (it.trees RunCycle)) p → agree plain (1 ∷ 2 ∷ []) p (1 ∷ 2 ∷ []) r ≡ true
        → has_parent schema.tables next r to_run_cycle ≡ true
    held r p has agrees = or_right (has_null (1 ∷ 2 ∷ []) r) (is_held next (1 ∷ 2 ∷ []) r (parent_key schema.tables
        to_run_cycle)) (rw (parent_is schema it) (some_from (λ p. agree plain (1 ∷ 2 ∷ []) p (1 ∷ 2 ∷ []) r)
        (next (it.trees RunCycle)) p (kept_parent p has) agrees))

    old_parent : Refers Whole schema db → (r : Row) → Has (db (it.trees Offset)) r
        → has_parent schema.tables next r to_run_cycle ≡ true
    old_parent refers r has = elim (or_cases (has_null (1 ∷ 2 ∷ []) r) (is_held db (1 ∷ 2 ∷ []) r (parent_key
        schema.tables to_run_cycle)) (refers_at Whole schema db (table_at (it.trees Offset) Offset) r to_run_cycle refers
        (is_listed schema it Offset) has (inl refl) refl)) [
          | inl null ↦ or_left (has_null (1 ∷ 2 ∷ []) r) (is_held next (1 ∷ 2 ∷ []) r (parent_key schema.tables
              to_run_cycle)) null
          | inr in_db ↦
              let parent = some_has (λ p. agree plain (1 ∷ 2 ∷ []) p (1 ∷ 2 ∷ []) r) (db (it.trees RunCycle)) (rw (parent_is schema it) at in_db) in
              held r parent.0 parent.1 parent.2
        ]

    new_parent : it.trees Offset ≡ it.trees t → has_parent schema.tables next row to_run_cycle ≡ true
    new_parent same =
        let is = tree_tells same in
        let found_one = (subst (AllByRecursion (λ ref. list_any (λ parent. agree plain (1 ∷ 2 ∷ []) parent ref.columns
        row) (db (it.trees RunCycle)) ≡ true)) (sym (ap (λ (d : Described). d.references) is)) accepts.parents).0 in
        let parent = some_has (λ p. agree plain (1 ∷ 2 ∷ []) p (1 ∷ 2 ∷ []) row) (db (it.trees RunCycle)) found_one in
        held row parent.0 parent.1 parent.2

    parent_of : Refers Whole schema db → it.trees Offset ≡ it.trees t → (r : Row)
        → Has (row ∷ []) r ⊎ Has was r → has_parent schema.tables next r to_run_cycle ≡ true
    parent_of refers same r (inl (inl is)) =
        subst (λ r. has_parent schema.tables next r to_run_cycle ≡ true) (sym is) (new_parent same)
    parent_of refers same r (inl (inr none)) = absurd none
    parent_of refers same r (inr kept) = old_parent refers r (subst (λ n. Has (db n) r) (sym same) kept)

    pub refers_after : Refers Whole schema db → Refers Whole schema next
    refers_after refers = refers_still schema it t db next (row ∷ []) others from refers (λ r has.
        elim (cases_eq (it.trees Offset) (it.trees t)) [
          | inl same ↦ parent_of refers same r (from r (subst (λ n. Has (next n) r) same has))
          | inr other ↦ old_parent refers r (subst (λ rows. Has rows r) (others (table_at (it.trees Offset) Offset) (is_listed schema it Offset)
              other) has)
        ])

-- ---- rows that are accepted in turn

module _ (schema : Schema) (it : HasTables schema) (own : AllByRecursion (IsKeyIndex it.trees) schema.indexes) (t : Table) where
  abbrev Taken : List Row → Trees → Type 0
  Taken rows db = AcceptsInTurn t rows (λ u. db (it.trees u))

  abbrev first_row : Row → Trees → Row
  first_row cells db = new_row t cells (λ u. db (it.trees u))

  -- with the row of these values
  abbrev after : Row → Trees → Trees
  after cells db = with_tree db (it.trees t) (put_row (first_row cells db) (db (it.trees t)))

  here_after : (cells : Row) (db : Trees) → after cells db (it.trees t) ≡ put_row (first_row cells db) (db (it.trees t))
  here_after cells db = at_own db (it.trees t) _

  others_after : (cells : Row) (db : Trees) (d : Described) → Has schema.tables d → d.tree ≢ it.trees t
      → after cells db d.tree ≡ db d.tree
  others_after cells db d listed other = at_other db d.tree (it.trees t) _ other

  next_taken : (cells : Row) (more : List Row) (db : Trees) → Taken (cells ∷ more) db → Taken more (after cells db)
  next_taken cells more db h = subst (AcceptsInTurn t more) (sym (same_rows schema it t _ db (after cells db)
      (here_after cells db ∙ put_is_placed (first_row cells db) (db (it.trees t)) h.0.fresh)
      (all_from (λ (d : Described). d.tree ≢ it.trees t → after cells db d.tree ≡ db d.tree) schema.tables
      (others_after cells db)))) h.1

  abbrev news : List Row → Trees → List Row
  news [] db = []
  news (cells ∷ more) db = first_row cells db ∷ news more (after cells db)

  news_are : (rows : List Row) (db : Trees) → Taken rows db
      → numbered Chosen (db (it.trees t)) (sources t rows) ≡ news rows db
  news_are [] db h = refl
  news_are (cells ∷ more) db h =
      ap (λ s. with_rowid Chosen (db (it.trees t)) s ∷ numbered Chosen (put_row (with_rowid Chosen (db (it.trees t)) s)
      (db (it.trees t))) (sources t more)) h.0.kinds ∙ ap (λ l. first_row cells db ∷ l)
      (ap (λ was. numbered Chosen was (sources t more)) (sym (here_after cells db))
      ∙ news_are more (after cells db) (next_taken cells more db h))

  -- what holds of a row that is accepted holds of each
  each_new : (P : Row → Type 0) → ((cells : Row) (db : Trees) → AcceptsRow t cells (λ u. db (it.trees u)) → P (first_row cells db))
      → (rows : List Row) (db : Trees) → Taken rows db → AllByRecursion P (news rows db)
  each_new P holds [] db h = tt
  each_new P holds (cells ∷ more) db h =
      (holds cells db h.0, each_new P holds more (after cells db) (next_taken cells more db h))

  all_fresh : (rows : List Row) (db : Trees) → Taken rows db → are_fresh (db (it.trees t)) (news rows db) ≡ true
  all_fresh [] db h = refl
  all_fresh (cells ∷ more) db h = and_from _ _ (not_from_false _ h.0.fresh)
      (subst (λ was. are_fresh was (news more (after cells db)) ≡ true) (here_after cells db)
      (all_fresh more (after cells db) (next_taken cells more db h)))

  all_bound : (rows : List Row) (db : Trees) → Taken rows db → AllByRecursion IsBindable (flat_map (stored t) rows)
  all_bound [] db h = tt
  all_bound (cells ∷ more) db h = all-append IsBindable (stored t cells) (flat_map (stored t) more)
      (can_be_bound t cells (Int (next_rowid (db (it.trees t)))) (recursion_from_All _ (first_row cells db)
      h.0.storable.0.numbers)) (all_bound more (after cells db) (next_taken cells more db h))

  -- with all of them
  abbrev HasAll : List Row → (db next : Trees) → Type 0
  HasAll rows db next = (next (it.trees t) ≡ put_all (db (it.trees t)) (news rows db))
      × ((d : Described) → Has schema.tables d → d.tree ≢ it.trees t → next d.tree ≡ db d.tree)

  then_more : (cells : Row) (more : List Row) (db next : Trees) → HasAll (cells ∷ more) db next
      → HasAll more (after cells db) next
  then_more cells more db next has = (
    has.0 ∙ ap (λ was. put_all was (news more (after cells db))) (sym (here_after cells db)),
    λ d listed other. has.1 d listed other ∙ sym (others_after cells db d listed other),
  )

  unique_with : (rows : List Row) (db next : Trees) → Taken rows db → HasAll rows db next → Keeps Unique schema db
      → Keeps Unique schema next
  unique_with [] db next h has keeps = unique_still schema (table_at (it.trees t) t) (is_listed schema it t) it.apart db next [] has.1
      (λ r there. inr (subst (λ rows. Has rows r) has.0 there)) (λ i listed on r none. absurd none) keeps
  unique_with (cells ∷ more) db next h has keeps = unique_with more (after cells db) next (next_taken cells more db h)
      (then_more cells more db next has)
      (unique_after schema it own t cells db h.0 (after cells db) (here_after cells db) (others_after cells db) keeps)

  all_same : (db next : Trees) → HasAll [] db next → (u : Table) → next (it.trees u) ≡ db (it.trees u)
  all_same db next has u = elim (cases_eq (it.trees u) (it.trees t)) [
    | inl same ↦ ap next same ∙ has.0 ∙ sym (ap db same)
    | inr other ↦ has.1 (table_at (it.trees u) u) (is_listed schema it u) other
  ]

  refers_with : (rows : List Row) (db next : Trees) → Taken rows db → HasAll rows db next → Refers Whole schema db
      → Refers Whole schema next
  refers_with [] db next h has refers = refers_still schema it t db next [] has.1
      (λ r there. inr (subst (λ rows. Has rows r) has.0 there)) refers (λ r there.
      let was = refers_at Whole schema db (table_at (it.trees Offset) Offset) r to_run_cycle refers
      (is_listed schema it Offset) (subst (λ rows. Has rows r) (all_same db next has Offset) there) (inl refl) refl in
      rw (parent_is schema it, all_same db next has RunCycle) (rw (parent_is schema it) at was))
  refers_with (cells ∷ more) db next h has refers = refers_with more (after cells db) next (next_taken cells more db h)
      (then_more cells more db next has)
      (refers_after schema it own t cells db h.0 (after cells db) (here_after cells db) (others_after cells db) refers)

-- ---- a statement that puts them in is not refused

adds_fit : (schema : Schema) → is_key_of schema to_run_cycle ≡ true → (u : Table) → list_all (is_key_of schema) (references u) ≡ true
adds_fit schema keyed Offset = and_from _ _ keyed refl
adds_fit schema keyed t = refl

module _ (schema : Schema) (it : HasTables schema) (own : AllByRecursion (IsKeyIndex it.trees) schema.indexes) (t : Table)
    (sql : List ℕ) (terms : List Term) (size : ℕ) (values : Row) (rows : List Row)
    (puts : PutsRows t sql terms size values rows) (db : Trees) (taken : AcceptsInTurn t rows (λ u. db (it.trees u))) where
  abbrev edit : Edit
  edit = edit_of db (table_at (it.trees t) t) [] Chosen 0 (map (stored t) rows)

  news_of : edit.news ≡ news schema it own t rows db
  news_of = news_are schema it own t rows db taken

  all_pass : (p : Row → Bool) → ((cells : Row) (db : Trees) → AcceptsRow t cells (λ u. db (it.trees u))
      → p (first_row schema it own t cells db) ≡ true) → list_all p edit.news ≡ true
  all_pass p passes_one = subst (λ all. list_all p all ≡ true) (sym news_of)
      (test_from_all p (news schema it own t rows db) (each_new schema it own t (λ r. p r ≡ true) passes_one rows db taken))

  has_all : (next : Trees) → next (it.trees t) ≡ edited db edit
      → ((d : Described) → Has schema.tables d → d.tree ≢ it.trees t → next d.tree ≡ db d.tree)
      → HasAll schema it own t rows db next
  has_all next here others = (here ∙ ap (put_all (db (it.trees t))) news_of, others)

  -- no two rows of a table have one key, and what the offsets refer to is one
  abbrev HasKeys : Type 0
  HasKeys = Keeps Unique schema db × (is_key_of schema to_run_cycle ≡ true)

  referred : (b : Bool) → is_key_of schema to_run_cycle ≡ true → references_fit schema (table_at (it.trees t) t) b false ≡ true
  referred true keyed = and_from _ _ (adds_fit schema keyed t) refl
  referred false keyed = refl

  not_refused : HasKeys → (why : Refusal) → IsRefused schema Enforced db edit why → ⊥
  not_refused keeps (Violates Datatype) h = true≢false (sym (all_pass (passes Datatype schema db (table_at (it.trees t) t))
      (λ cells db one. and_from _ _ one.typed refl)) ∙ h)
  not_refused keeps (Violates NotNull) h =
      true≢false (sym (all_pass (passes NotNull schema db (table_at (it.trees t) t)) (λ cells db one. one.present)) ∙ h)
  not_refused keeps (Violates Check) h =
      true≢false (sym (all_pass (passes Check schema db (table_at (it.trees t) t)) (λ cells db one. one.checked)) ∙ h)
  not_refused keeps (Violates PrimaryKey) h = true≢false (sym (all_fresh schema it own t rows db taken)
      ∙ subst (λ all. are_fresh (db (it.trees t)) all ≡ false) news_of h)
  not_refused keeps (Violates Unique) h = h (unique_with schema it own t rows db
      (with_tree db (it.trees t) (edited db edit)) taken (has_all (with_tree db (it.trees t) (edited db edit))
      (at_own db (it.trees t) (edited db edit)) (λ d listed other. at_other db d.tree (it.trees t) (edited db edit) other))
      keeps.0)
  not_refused keeps (Violates ForeignKey) h = h
  not_refused keeps Mismatch h = true≢false (sym (all_pass (λ r. is_int (rowid r)) (λ cells db one. one.numbered)) ∙ h)
  not_refused keeps NoRowid h =
      true≢false (sym (all_pass (λ r. fits_i64 (id_in (rowid r))) (λ cells db one. one.within)) ∙ h)
  not_refused keeps BadReference h = true≢false (sym (referred (nat_lt 0 (length edit.news)) keeps.1) ∙ h)
  not_refused keeps TooDeep h = h

  not_oversized : (r : Row) → Has edit.news r → IsOversized schema (table_at (it.trees t) t) r → ⊥
  not_oversized r has = all_has (λ r. ¬ IsOversized schema (table_at (it.trees t) t) r) (news schema it own t rows db) r
      (each_new schema it own t (λ r. ¬ IsOversized schema (table_at (it.trees t) t) r) fits_in rows db taken)
      (subst (λ all. Has all r) news_of has)
    where
      fits_in : (cells : Row) (db : Trees) → AcceptsRow t cells (λ u. db (it.trees u))
          → ¬ IsOversized schema (table_at (it.trees t) t) (first_row schema it own t cells db)
      fits_in cells db one (inl bad) = bad one.storable
      fits_in cells db one (inr (i, there, mine, bad)) =
          let key = all_has (IsKeyIndex it.trees) schema.indexes i own there t mine in
          bad (subst (AllByRecursion (λ places. IsStorable (index_reals (table_reals (table_at (it.trees t) t)) places)
          (entry_of places (first_row schema it own t cells db)))) key.0 one.entries).0

  led_on : (why : Option Refusal) (next : Trees) (n : ℕ) → Leads schema Enforced n next [] (Err why) → ⊥
  led_on why next zero h = let e = h.1 in cc
  led_on why next (suc n) h = omega (arith, ap length h.2, length-append h.0 (h.1 ∷ []))

  settled : (why : Option Refusal) (next : Trees) → Settles schema Enforced next ([] ++ works schema Enforced 0 (it.trees t)
      [] edit.news) (Err why) → ⊥
  settled why next (n, leads) = led_on why next n (subst (λ stack. Leads schema Enforced n next stack (Err why))
      (none_taken schema Enforced 0 (it.trees t) edit.news) leads)

  never_big : Writes schema Enforced db edit (Err None) → ⊥
  never_big (inl (reason, refused, e)) = absurd (let k = e in cc)
  never_big (inr (inl (r, has, big, e))) = not_oversized r has big
  never_big (inr (inr (next, applies, leads))) = settled None next leads

  never : HasKeys → (why : Refusal) → Writes schema Enforced db edit (Err (Some why)) → ⊥
  never keeps why (inl (reason, refused, e)) = not_refused keeps reason refused
  never keeps why (inr (inl (r, has, big, e))) = not_oversized r has big
  never keeps why (inr (inr (next, applies, leads))) = settled (Some why) next leads

  holds : Refers Whole schema db → (next : Trees) → Applies schema Enforced db edit next → Refers Whole schema next
  holds refers next applies = refers_with schema it own t rows db next taken (has_all next applies.rows
      (λ d listed other. all_has (λ (u : Described). u.tree ≢ it.trees t → next u.tree ≡ db u.tree) schema.tables d
      applies.tables listed other)) refers

  -- ---- the statement

  given : (all : List Row) → all ≡ value_rows (values ++ []) (width t) (length terms / width t) terms
      → all ≡ map (stored t) rows
  given all is = is ∙ puts.rows_are

  takes_terms : accepts_terms terms (values ++ []) ≡ true
  takes_terms = ap (accepts_terms terms) (append-nil values) ∙ accepted terms values puts.terms_are
      (subst (AllByRecursion IsBindable) (sym puts.values_are) (all_bound schema it own t rows db taken))

  module _ (limit : Option ℕ) where
    abbrev task : Task
    task = record { limit = limit; keys = Enforced; schema = schema; table = table_at (it.trees t) t; params = values }

    none_put : Inserts task (Values terms (width t)) db (Err None) → ⊥
    none_put (inl (Some e, h, is)) = absurd (let k = is in cc)
    none_put (inl (None, h, is)) = absurd h
    none_put (inr (all, from, inl (s, counter, is))) = absurd (let e = counter in cc)
    none_put (inr (all, from, inr (c, counter, inl (s, (Some why, h, told), is)))) = absurd (let e = is in let k = told in cc)
    none_put (inr (all, from, inr (c, counter, inl (s, (None, h, told), is)))) = never_big (subst (λ all. Writes
        schema Enforced db (edit_of db (table_at (it.trees t) t) [] Chosen 0 all) (Err None)) (given all from.1) h)
    none_put (inr (all, from, inr (c, counter, inr (mid, h, inl (s, counted, is))))) = absurd (let e = counted in cc)
    none_put (inr (all, from, inr (c, counter, inr (mid, h, inr (next, counted, is))))) = absurd (let e = is in cc)

    put : HasKeys → (stop : Option Error) → Inserts task (Values terms (width t)) db (Err stop)
        → (stop ≡ Some (SqliteFailure OperationInterrupted)) × IsSome limit
    put keeps stop (inl (Some e, inl h, is)) = absurd (true≢false (sym takes_terms ∙ h.1))
    put keeps stop (inl (Some e, inr h, is)) = (same_error is ∙ ap Some h.0, h.1)
    put keeps stop (inl (None, h, is)) = absurd h
    put keeps stop (inr (all, from, inl (s, counter, is))) = absurd (let e = counter in cc)
    put keeps stop (inr (all, from, inr (c, counter, inl (s, (Some why, h, told), is)))) = absurd (never keeps why
        (subst (λ all. Writes schema Enforced db (edit_of db (table_at (it.trees t) t) [] Chosen 0 all) (Err (Some why))) (given all
        from.1) h))
    put keeps stop (inr (all, from, inr (c, counter, inl (s, (None, h, told), is)))) = absurd (never_big (subst
        (λ all. Writes schema Enforced db (edit_of db (table_at (it.trees t) t) [] Chosen 0 all) (Err None)) (given all from.1) h))
    put keeps stop (inr (all, from, inr (c, counter, inr (mid, h, inl (s, counted, is))))) =
        absurd (let e = counted in cc)
    put keeps stop (inr (all, from, inr (c, counter, inr (mid, h, inr (next, counted, is))))) =
        absurd (let e = is in cc)

    refers_then : Refers Whole schema db → (w : Written) → Inserts task (Values terms (width t)) db (Ok w)
        → Refers Whole schema w.trees
    refers_then refers w (inl (s, from, is)) = absurd (let e = is in cc)
    refers_then refers w (inr (all, from, inl (s, counter, is))) = absurd (let e = is in cc)
    refers_then refers w (inr (all, from, inr (c, counter, inl (s, h, is)))) = absurd (let e = is in cc)
    refers_then refers w (inr (all, from, inr (c, counter, inr (mid, h, inl (s, counted, is))))) =
        absurd (let e = is in cc)
    refers_then refers w (inr (all, from, inr (c, counter, inr (mid, h, inr (next, counted, is))))) =
        let made = one_step schema Enforced db mid edit (none_taken schema Enforced 0 (it.trees t) edit.news) (subst (λ all. Writes
        schema Enforced db (edit_of db (table_at (it.trees t) t) [] Chosen 0 all) (Ok mid)) (given all from.1) h) in
        let trees : w.trees ≡ mid = ap (λ (it : Written). it.trees) (same_value is) ∙ same_value counted in
        subst (Refers Whole schema) (sym trees) (holds refers mid made)

    abbrev mode : Mode
    mode = record { keys = Enforced; in_doubt = false; may_wait = false }

    abbrev command : Command
    command = Insert (it.at t) (Values terms (width t))

    abbrev DoesSo : List ℕ → Option Error → Type 0
    DoesSo text stop = Does limit mode values (record { schema = schema; trees = db }) text None command (Err stop)

    pub never_stops : (text : List ℕ) → DoesSo text None → ⊥
    never_stops text does = go (rw ((it.stands t).got) at does)
      where
        go : OnRows task mode None command db (Err None) → ⊥
        go (inl (s, h, is)) = none_put (subst (λ s. Inserts task (Values terms (width t)) db (Err s)) (sym
            (same_error is)) h)
        go (inr (w, h, inl (s, tested, is))) = absurd (let e = tested.1 in let k = is in cc)
        go (inr (w, h, inr (in_doubt, tested, inl (s, shown, is)))) = absurd (let e = shown in cc)
        go (inr (w, h, inr (in_doubt, tested, inr (rows, shown, is)))) = absurd (let e = is in cc)

    pub stops : HasKeys → Refers Whole schema db → (text : List ℕ) (stop : Option Error)
        → DoesSo text stop → (stop ≡ Some (SqliteFailure OperationInterrupted)) × IsSome limit
    stops keeps refers text stop does = go (rw ((it.stands t).got) at does)
      where
        go : OnRows task mode None command db (Err stop) → (stop ≡ Some (SqliteFailure OperationInterrupted)) × IsSome limit
        go (inl (s, h, is)) = let told = put keeps s h in (same_error is ∙ told.0, told.1)
        go (inr (w, h, inl (s, tested, is))) = absurd (tested.0 (refers_then refers w h))
        go (inr (w, h, inr (in_doubt, tested, inl (s, shown, is)))) = absurd (let e = shown in cc)
        go (inr (w, h, inr (in_doubt, tested, inr (rows, shown, is)))) = absurd (let e = is in cc)

ordinary : (place : ℕ) (terms : List Term) (width : ℕ) → IsOrdinary (Insert place (Values terms width))
ordinary place terms width = record { quiet = refl; plain = refl; begins = λ e. cc; commits = λ e. cc; undoes = λ e. cc; releases = λ name e. cc; goes_back = λ name e. cc }

-- in a database the key of the run cycles has its index
pub cycles_keyed : (schema : Schema) (it : HasTables schema) → AllByRecursion (IsGuarded schema.indexes) schema.tables
    → is_key_of schema to_run_cycle ≡ true
unfolding joined
cycles_keyed schema it guarded =
    let known = is_listed schema it RunCycle in
    let own = all_has (IsGuarded schema.indexes) schema.tables _ guarded known 0 (1 ∷ 2 ∷ []) refl in
    let key = key_is schema (it.at RunCycle) (it.trees RunCycle) (it.trees Offset) (it.stands RunCycle) known it.apart (offsets_refer schema it) in
    rw key (some_from (is_index_for (it.trees RunCycle, 1 ∷ 2 ∷ [], name_order)) schema.indexes (automatic (table_at (it.trees RunCycle) RunCycle) 0 (1 ∷ 2 ∷ []) own.0) own.1
    (rw (eq-eqb (it.trees RunCycle) (it.trees RunCycle) refl) refl))

module _ (t : Table) (sql : List ℕ) (terms : List Term) (size : ℕ) (values : Row) (rows : List Row)
    (puts : PutsRows t sql terms size values rows) where
  pub take_fails : (old new : State) (e : Error) → IsSoundPlan old → length values ≡ size
      → AcceptsInTurn t rows (tables_of old.now.trees) → ExecutesInside 0 sql values old new (Err e)
      → MayFail old new e
  take_fails old new e sound whole accepts h =
      let schema = old.now.schema in
      let it = sound.plan.schema in
      let own = sound.own it in
      let text = statement_of sql (understood schema sql) in
      let command = Insert (it.at t) (Values terms (width t)) in
      let db = old.now.trees in
      let taken = subst (AcceptsInTurn t rows) (rows_are old sound.plan) accepts in
      let means = puts.means schema (it.at t) (it.trees t) (it.stands t) in
      in_vain old new values text command e
      (λ does. never_stops schema it own t sql terms size values rows puts db taken old.step_limit text does)
      (λ opened does.
      let database = sound.sound opened in
      let keys : Keeps Unique schema db × (is_key_of schema to_run_cycle ≡ true) = (
        database.obeys.rules Unique,
        cycles_keyed
            schema it database.lists.guarded,
      ) in
      let told = stops schema it own t sql terms size values rows puts db taken old.step_limit keys
      (database.obeys.rules ForeignKey) text (Some e) does in
      (some_same told.0, told.1))
      (stopped schema sql values command (subst (IsWhole (understood schema sql) (length sql)) (sym whole) means.whole)
      means.plain means.is (ordinary (it.at t) terms (width t)) old new e refl h)

pub still_sound : (old new : State) (rows : Tables) → IsSoundPlan old → Stands old new rows
    → new.now.schema ≡ old.now.schema → IsDatabase new.now → IsSoundPlan new
still_sound old new rows sound stands same database = record {
  plan = stands.plan;
  own = subst HasOnlyKeyIndexes (sym same) sound.own;
  sound = λ _. database;
  mode = stands.mode;
}

-- the values of rows that are accepted are of their kinds
all_kinds : (t : Table) (rows : List Row) (all : Tables) → AcceptsInTurn t rows all → AllByRecursion (AreOfKinds t) rows
all_kinds t [] all h = tt
all_kinds t (cells ∷ more) all h = (h.0.kinds, all_kinds t more (with_cells t cells all) h.1)

pub take_sound : (t : Table) (sql : List ℕ) (terms : List Term) (size : ℕ) (values : Row) (rows : List Row)
    → PutsRows t sql terms size values rows → (old new : State) (count : ℕ) → IsSoundPlan old
    → AcceptsInTurn t rows (tables_of old.now.trees) → ExecutesInside 0 sql values old new (Ok count)
    → IsSoundPlan new × (IsTrue old.is_open → IsTrue new.is_open)
    × (tables_of new.now.trees ≡ with_several t rows (tables_of old.now.trees))
take_sound t sql terms size values rows puts old new count sound accepts h =
    let kinds = all_kinds t rows (tables_of old.now.trees) accepts in
    let stands = inserted t sql terms size values rows puts old new count sound.plan kinds h in
    let kept = put_soundly t sql terms size values rows puts old new count sound.plan kinds h in
    (still_sound old new _ sound stands kept.0 kept.1, (λ _. h.1.is_open), stands.rows_are)
