-- What one statement makes of a plan.
use Rattle.std.proofs.Common.{◌≡◌, ◌≢◌, ◌==◌, ◌∙◌, ℕ, Bool, true, false, cond, List, [], ◌∷◌, map, filter, find, unwrap_or, not, Result, Ok, Err, inl, refl, sym, ap, subst, arith}
use Rattle.std.specs.List.{AllByRecursion}
use Rattle.std.specs.List.Sorted.{IsPermutation}
use Rattle.std.specs.Prelude.{IfErr, IfOk}
use Rattle.std.proofs.lemmas.Bool.Decides.{nat_tests}
use Rattle.sqlite.specs.Command.TheVariants.{Insert, Delete}
use Rattle.sqlite.specs.Effect.{Database, IsDatabase}
use Rattle.sqlite.specs.Listing.{understood}
use Rattle.sqlite.specs.Order.{Row}
use Rattle.sqlite.specs.Rowids.TheVariants.{Chosen}
use Rattle.sqlite.specs.Source.TheVariants.{Values}
use Rattle.sqlite.specs.State.{CommitsShowing, ExecutesInside, FailsToQuery, IsLive, IsUnchanged, Shown, State, Survives}
use Rattle.sqlite.specs.Term.{Term, col, eval_all}
use Rattle.sqlite.specs.Tree.{Trees}
use Rattle.sqlite.specs.declared.error.Error.{Error}
use Rattle.sqlite.proofs.Callers.{IsPlain, never_commits, runs_as}
use Rattle.sqlite.proofs.StateLemmas.{survives_weaker}
use Rattle.sqlite_keyed.proofs.ListLemmas.{all_of, filter_all}
use Rattle.sqlite_rules.proofs.ListLemmas.{all_from, all_has, has_got}
use Rattle.sqlite_rules.proofs.RuleLemmas.{same_table}
use Rattle.sqlite_rules.specs.Edit.{with_rowid}
use Rattle.sqlite_rules.specs.Lists.{Has}
use Rattle.sqlite_schema.specs.Names.{same_name}
use Rattle.sqlite_schema.specs.declared.schema.Schema.{Schema}
use Rattle.sqlite_schema.specs.declared.schema.Table.{Table as Described}
use Rattle.sqlite_trees.specs.Objects.{catalog_tree}
use Rattle.sqlite_trees.specs.Tree.{IsAscending}
use Rattle.plan_tables_schema.specs.Cells.{column_names, delete_tests, select_terms, width}
use Rattle.plan_tables_schema.specs.Places.{TableIsAt, TreesDiffer, tree_named}
use Rattle.plan_tables_schema.specs.Rows.{AreOfKinds, HaveRowids, IsAlone, IsPlan, KeepsBeside, MayFail, Stands, StaysOrIsUndone, Tables, matches, placed}
use Rattle.plan_tables_schema.specs.Rows.{shown, stored, tables_of, with_cells, with_rows, with_several, without_key}
use Rattle.plan_tables_schema.specs.Schema.{HasTables, RefersAside, all_tables, name, place, table_at}
use Rattle.plan_tables_schema.specs.Texts.{delete_sql, select_sql}
use Rattle.plan_tables_schema.specs.declared.tables.Table.{Table}
use Rattle.plan_tables_schema.specs.declared.tables.Table.TheVariants.{Meta}
use Rattle.plan_tables_schema.specs.declared.tables.Table.TheVariants.{Offset}
use Rattle.plan_tables_schema.proofs.EffectLemmas.{KeepsOthers, puts_rows}
use Rattle.plan_tables_schema.proofs.NamedLemmas.{rows_are, tells}
use Rattle.plan_tables_schema.proofs.PlanLemmas.{accepts}
use Rattle.plan_tables_schema.proofs.QueryMeanings.{ShowsRows}
use Rattle.plan_tables_schema.proofs.RowLemmas.{rowids_filter}
use Rattle.plan_tables_schema.proofs.SelectTexts.{selects}
use Rattle.plan_tables_schema.proofs.SeveralLemmas.{PutsRows, placed_all}
use Rattle.plan_tables_schema.proofs.ShownLemmas as caller
use Rattle.plan_tables_schema.proofs.Steps.{plain_query}
use Rattle.plan_tables_schema.proofs.TextMeanings.{delete_means}

-- ---- the tables are told apart by their names, and by their numbers

by_name : List ℕ → Table
by_name it = unwrap_or (find (λ t. same_name (name t) it) all_tables) Meta

own_name : (t : Table) → by_name (name t) ≡ t
unfolding same_name by_name
own_name Meta = refl
own_name t = refl

by_place : ℕ → Table
by_place n = unwrap_or (find (λ t. place t == n) all_tables) Meta

own_place : (t : Table) → by_place (place t) ≡ t
unfolding by_place
own_place Meta = refl
own_place t = refl

same_place : (u t : Table) → place u ≡ place t → u ≡ t
same_place u t same = sym (own_place u) ∙ ap by_place same ∙ own_place t

-- the tables stand in a schema that is the same
abbrev pub moved : (a b : Schema) → a ≡ b → HasTables a → HasTables b
moved a b same has = record {
  at = has.at;
  trees = has.trees;
  stands = λ t. subst (λ s. TableIsAt s (table_at (has.trees t) t) (has.at t)) same (has.stands t);
  apart = subst (λ (s : Schema). IsAscending TreesDiffer s.tables) same has.apart;
  refer = subst (λ s. RefersAside s (has.trees Offset)) same has.refer;
}

-- a plan stays where the database is the same
pub plan_still : (a b : State) → b.now ≡ a.now → IsPlan a → IsPlan b
plan_still a b same plan = record {
  schema = moved a.now.schema b.now.schema (sym (ap (λ (d : Database). d.schema) same)) plan.schema;
  told = λ t. ap (λ (d : Database). tree_named (d.trees catalog_tree) (name t)) same ∙ plan.told t;
  rowids = λ t. subst (λ (d : Database). HaveRowids (tables_of d.trees t)) (sym same) (plan.rowids t);
}

module _ (schema : Schema) (has : HasTables schema) where
  known : (t : Table) → Has schema.tables (table_at (has.trees t) t)
  known t = has_got schema.tables (has.at t) _ (has.stands t).got

  pub trees_tell : (u t : Table) → has.trees u ≡ has.trees t → u ≡ t
  trees_tell u t same =
      let one : table_at (has.trees u) u ≡ table_at (has.trees t) t =
      same_table schema.tables _ _ has.apart (known u) (known t) same in
      sym (own_name u) ∙ ap (λ (d : Described). by_name d.name) one ∙ own_name t

  -- one table has these rows, and the others those that they had
  pub same_rows : (t : Table) (rows : List Row) (old new : Trees) → new (has.trees t) ≡ rows
      → KeepsOthers schema (has.trees t) old new
      → ◌≡◌ {A = Tables} (λ u. new (has.trees u)) (with_rows t rows (λ u. old (has.trees u)))
  same_rows t rows old new here others = λ i u. go u (place u == place t) refl i
    where
      go : (u : Table) (b : Bool) → (place u == place t) ≡ b → new (has.trees u) ≡ cond b rows (old (has.trees u))
      go u true e =
          let same : place u ≡ place t = grind (arith, nat_tests) in
          ap (λ v. new (has.trees v)) (same_place u t same) ∙ here
      go u false e = all_has (λ (d : Described). d.tree ≢ has.trees t → new d.tree ≡ old d.tree) schema.tables (table_at
          (has.trees u) u) others (known u) (λ same. let number = ap place (trees_tell u t same) in
          absurd (grind (arith, nat_tests, number)))

rowids_in : (t : Table) (rows : List Row) (old new : Tables) → new ≡ with_rows t rows old → HaveRowids rows
    → ((u : Table) → HaveRowids (old u)) → (u : Table) → HaveRowids (new u)
rowids_in t rows old new is here all u =
    subst (λ (tables : Tables). HaveRowids (tables u)) (sym is) (go (place u == place t))
  where
    go : (b : Bool) → HaveRowids (cond b rows (old u))
    go true = here
    go false = all u

-- a plan in which one table got these rows
plan_after : (t : Table) (rows : List Row) (old new : State) (plan : IsPlan old) → new.now.schema ≡ old.now.schema
    → IsDatabase new.now → new.now.trees (plan.schema.trees t) ≡ rows
    → KeepsOthers old.now.schema (plan.schema.trees t) old.now.trees new.now.trees → HaveRowids rows
    → IsPlan new × (tables_of new.now.trees ≡ with_rows t rows (tables_of old.now.trees))
    × ((u : Table) → tree_named (new.now.trees catalog_tree) (name u) ≡ tree_named (old.now.trees catalog_tree) (name u))
plan_after t rows old new plan same sound here others ids =
    let has = plan.schema in
    let after : HasTables new.now.schema = moved old.now.schema new.now.schema (sym same) has in
    let told : (u : Table) → tree_named (new.now.trees catalog_tree) (name u) ≡ has.trees u =
    tells new.now.schema (moved old.now.schema new.now.schema (sym same) has) (new.now.trees catalog_tree) sound.lists.listed in
    let named : tables_of new.now.trees ≡ (λ u. new.now.trees (has.trees u)) = λ i u. new.now.trees (told u i) in
    let all : tables_of new.now.trees ≡ with_rows t rows (tables_of old.now.trees) =
    named ∙ same_rows old.now.schema has t rows old.now.trees new.now.trees here others
    ∙ ap (with_rows t rows) (sym (rows_are old plan)) in (
      record {
        schema = moved old.now.schema new.now.schema (sym same) has;
        told = told;
        rowids = rowids_in t rows (tables_of old.now.trees) (tables_of new.now.trees) all ids plan.rowids;
      },
      all,
      λ u. told u ∙ sym (plan.told u),
    )

-- the tables that are none of the plan are not the one
keeps_beside : (t : Table) (old new : State) (plan : IsPlan old)
    → KeepsOthers old.now.schema (plan.schema.trees t) old.now.trees new.now.trees → KeepsBeside old.now new.now
keeps_beside t old new plan others = all_from (λ (d : Described). ((u : Table) → d.tree ≢ tree_named (old.now.trees
    catalog_tree) (name u)) → new.now.trees d.tree ≡ old.now.trees d.tree) old.now.schema.tables
    (λ d there away. all_has (λ (d : Described). d.tree ≢ plan.schema.trees t → new.now.trees d.tree ≡ old.now.trees
    d.tree) old.now.schema.tables d others there (λ same. away t (same ∙ sym (plan.told t))))

-- ---- INSERT

-- rows that are placed one after another are those of the tables to which they are added one after another
several_placed : (t : Table) (rows : List Row) (all : Tables)
    → with_rows t (placed_all t rows (all t)) all ≡ with_several t rows all
several_placed t [] all = λ i u. go u (place u == place t) refl i
  where
    go : (u : Table) (b : Bool) → (place u == place t) ≡ b → cond b (all t) (all u) ≡ all u
    go u true e = ap all (sym (same_place u t (grind (arith, nat_tests))))
    go u false e = refl
several_placed t (cells ∷ more) all = (λ i u. twice (place u == place t) (all u) i)
    ∙ ap (λ was. with_rows t (placed_all t more was) next) (sym here) ∙ several_placed t more next
  where
    next : Tables
    next = with_cells t cells all

    row_placed : List Row
    row_placed = placed (with_rowid Chosen (all t) (stored t cells)) (all t)

    own : (place t == place t) ≡ true
    own = grind (arith, nat_tests)

    here : cond (place t == place t) row_placed (all t) ≡ row_placed
    here = ap (λ b. cond b row_placed (all t)) own

    twice : (b : Bool) (others : List Row) → cond b (placed_all t more row_placed) others
        ≡ cond b (placed_all t more row_placed) (cond b row_placed others)
    twice true others = refl
    twice false others = refl

module _ (t : Table) (sql : List ℕ) (terms : List Term) (given : ℕ) (values : Row) (rows : List Row)
    (puts : PutsRows t sql terms given values rows) (old new : State) (count : ℕ) (plan : IsPlan old)
    (kinds : AllByRecursion (AreOfKinds t) rows) (h : ExecutesInside 0 sql values old new (Ok count)) where
  put_effect : (new.now.schema ≡ old.now.schema)
      × (new.now.trees (plan.schema.trees t) ≡ placed_all t rows (tables_of old.now.trees t))
      × KeepsOthers old.now.schema (plan.schema.trees t) old.now.trees new.now.trees
      × HaveRowids (placed_all t rows (tables_of old.now.trees t))
  put_effect =
      let has = plan.schema in
      let step = puts_rows old.now.schema (has.at t) (has.trees t) t (has.stands t) sql terms given values rows puts old
      new count refl kinds h.0 in
      let is = subst (λ was. (new.now.trees (has.trees t) ≡ placed_all t rows was)
      × (HaveRowids was → HaveRowids (placed_all t rows was))) (sym (ap old.now.trees (plan.told t))) (step.1, step.3) in
      (step.0, is.0, step.2, is.1 (plan.rowids t))

  pub put_soundly : (new.now.schema ≡ old.now.schema) × IsDatabase new.now
  put_soundly =
      let has = plan.schema in
      let means = puts.means old.now.schema (has.at t) (has.trees t) (has.stands t) in
      let w = runs_as sql values old new old.now.schema refl (Insert (has.at t) (Values terms (width t))) means.is
      means.plain count h.0 in
      (put_effect.0, w.sound)

  pub inserted : Stands old new (with_several t rows (tables_of old.now.trees))
  inserted =
      let after = plan_after t (placed_all t rows (tables_of old.now.trees t)) old new plan put_effect.0 put_soundly.1 put_effect.1
      put_effect.2 put_effect.3 in
      record {
        plan = after.0;
        schema = put_effect.0;
        same = after.2;
        others = keeps_beside t old new plan put_effect.2;
        obeys = λ _. put_soundly.1;
        rows_are = after.1 ∙ several_placed t rows (tables_of old.now.trees);
        committed = h.1.committed_is;
        mode = h.1.mode;
      }

-- ---- DELETE

module _ (t : Table) (key : Row) (old new : State) (count : ℕ) (plan : IsPlan old)
    (alone : IsAlone t key (tables_of old.now.trees))
    (h : ExecutesInside 0 (delete_sql t) key old new (Ok count)) where
  effect : (new.now.schema ≡ old.now.schema)
      × (new.now.trees (plan.schema.trees t) ≡ filter (λ r. not (matches t key r)) (tables_of old.now.trees t))
      × KeepsOthers old.now.schema (plan.schema.trees t) old.now.trees new.now.trees
  effect =
      let was = ap old.now.trees (plan.told t) in
      let step = accepts old.now.schema plan.schema t key old new count refl (subst HaveRowids was (plan.rowids t))
      (subst (IsAlone t key) (rows_are old plan) alone) h.0 in
      (step.0, step.1 ∙ ap (filter (λ r. not (matches t key r))) (sym was), step.2)

  pub gone_soundly : (new.now.schema ≡ old.now.schema) × IsDatabase new.now
  gone_soundly =
      let has = plan.schema in
      let means = delete_means old.now.schema (has.at t) (has.trees t) t (has.stands t) in
      let w = runs_as (delete_sql t) key old new old.now.schema refl (Delete (has.at t) (record {
        lets = [];
        body = plain_query (has.trees t) (delete_tests t) (col 1 0 ∷ []);
      })) means.is means.plain count h.0 in
      (effect.0, w.sound)

  pub deleted : Stands old new (without_key t key (tables_of old.now.trees))
  deleted =
      let left = filter (λ r. not (matches t key r)) (tables_of old.now.trees t) in
      let after = plan_after t left old new plan effect.0 gone_soundly.1 effect.1 effect.2
      (rowids_filter (λ r. not (matches t key r)) (tables_of old.now.trees t) (plan.rowids t)) in
      record {
        plan = after.0;
        schema = effect.0;
        same = after.2;
        others = keeps_beside t old new plan effect.2;
        obeys = λ _. gone_soundly.1;
        rows_are = after.1;
        committed = h.1.committed_is;
        mode = h.1.mode;
      }

-- ---- statements in turn

abbrev IsBeside : State → Described → Type 0
IsBeside s d = (t : Table) → d.tree ≢ tree_named (s.now.trees catalog_tree) (name t)

pub stands_after : (old mid new : State) (first rows : Tables) → Stands old mid first → Stands mid new rows
    → Stands old new rows
stands_after old mid new first rows one two = record {
  plan = two.plan;
  schema = two.schema ∙ one.schema;
  same = λ t. two.same t ∙ one.same t;
  others = all_from (λ (d : Described). IsBeside old d → new.now.trees d.tree ≡ old.now.trees d.tree)
      old.now.schema.tables (λ d there away. all_has (λ (d : Described). IsBeside mid d → new.now.trees d.tree ≡
      mid.now.trees d.tree) mid.now.schema.tables d two.others (subst (λ (s : Schema). Has s.tables d) (sym one.schema)
      there) (λ t is. away t (is ∙ one.same t)) ∙ all_has (λ (d : Described). IsBeside old d → mid.now.trees d.tree ≡
      old.now.trees d.tree) old.now.schema.tables d one.others there away);
  obeys = λ was. two.obeys (one.obeys was);
  rows_are = two.rows_are;
  committed = two.committed ∙ one.committed;
  mode = two.mode;
}

-- the rows are these
pub stands_done : (old now : State) (rows : Tables) → Stands old now (tables_of now.now.trees)
    → tables_of now.now.trees ≡ rows → Stands old now rows
stands_done old now rows one is = subst (Stands old now) is one

-- ---- SELECT

-- of any text that shows terms of all rows of a table
module _ (t : Table) (sql : List ℕ) (terms : List Term) (names : List (List ℕ)) (old new : State)
    (has : HasTables old.now.schema) (means : ShowsRows old.now.schema sql (has.trees t) terms names) where
  pub text_stays : (rows : List Row) → Shown sql [] old new rows → IsUnchanged old new
  text_stays rows h = caller.stays old.now.schema sql (has.trees t) terms names means old new rows refl h

  pub text_reads : (rows : List Row) → IsLive old → Shown sql [] old new rows
      → IsPermutation (map (λ r. eval_all terms ([] ∷ r ∷ [])) (tables_of old.now.trees t)) rows
  text_reads rows live h =
      let sound = (live (text_stays rows h).0.was_open).0 in
      let told = tells old.now.schema has (old.now.trees catalog_tree) sound.lists.listed t in
      let was = old.now.trees (has.trees t) in
      let shows : Row → Row = λ r. eval_all terms ([] ∷ r ∷ []) in
      subst (λ all. IsPermutation (map shows all) rows) (sym (ap old.now.trees told))
      (subst (λ all. IsPermutation (map shows all) rows) (filter_all (λ _. true) was (all_of _ (λ _. refl) was))
      (caller.shows_all old.now.schema sql (has.trees t) terms names means (has.stands t).stored old new rows refl h))

  pub text_fails : (e : Error) → FailsToQuery sql [] old new e → MayFail old new e
  text_fails e h = caller.fails old.now.schema sql (has.trees t) terms names means old new e refl h

  -- whatever it answers, all stays, or it is undone that was not committed
  pub text_leaves : {A : Type 0} (items : A → List Row) (r : Result A Error)
      → IfOk r (λ rows. Shown sql [] old new (items rows)) → IfErr r (FailsToQuery sql [] old new)
      → StaysOrIsUndone old new
  text_leaves items (Ok rows) ok err = inl (text_stays (items rows) ok)
  text_leaves items (Err e) ok err = caller.failed old.now.schema sql (has.trees t) terms names means old new e refl err

-- such a text commits nothing
pub text_quiet : (sql : List ℕ) (old new : State) → (HasTables old.now.schema → IsPlain (understood old.now.schema sql))
    → Survives old new (CommitsShowing sql [] old) → Survives old new (λ _. HasTables old.now.schema → ⊥)
text_quiet sql old new plain = survives_weaker old new _ _ (λ _ db c has. never_commits sql [] old db (plain has) c)

module _ (t : Table) (old new : State) where
  means : (has : HasTables old.now.schema) → ShowsRows old.now.schema (select_sql t) (has.trees t) (select_terms t)
      (column_names t)
  means has = selects old.now.schema (has.trees t) (has.at t) t (has.stands t)

  pub stays : (has : HasTables old.now.schema) (rows : List Row) → Shown (select_sql t) [] old new rows
      → IsUnchanged old new
  stays has = text_stays t (select_sql t) (select_terms t) (column_names t) old new has (means has)

  pub reads : (has : HasTables old.now.schema) (rows : List Row) → IsLive old → Shown (select_sql t) [] old new rows
      → IsPermutation (map (shown t) (tables_of old.now.trees t)) rows
  reads has = text_reads t (select_sql t) (select_terms t) (column_names t) old new has (means has)

  pub fails : (has : HasTables old.now.schema) (e : Error) → FailsToQuery (select_sql t) [] old new e → MayFail old new e
  fails has = text_fails t (select_sql t) (select_terms t) (column_names t) old new has (means has)

  pub leaves : {A : Type 0} (has : HasTables old.now.schema) (items : A → List Row) (r : Result A Error)
      → IfOk r (λ rows. Shown (select_sql t) [] old new (items rows)) → IfErr r (FailsToQuery (select_sql t) [] old new) → StaysOrIsUndone old new
  leaves has = text_leaves t (select_sql t) (select_terms t) (column_names t) old new has (means has)

  pub quiet : Survives old new (CommitsShowing (select_sql t) [] old)
      → Survives old new (λ _. HasTables old.now.schema → ⊥)
  quiet = text_quiet (select_sql t) old new (λ has. (means has).plain)
