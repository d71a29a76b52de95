-- What one statement does to its table, wherever the table stands.
use Rattle.std.proofs.Common.{◌≡◌, ◌≢◌, ◌==◌, ◌&&◌, ◌∙◌, ℕ, Bool, true, false, not, cond, List, [], ◌∷◌, length, map, filter, Option, Some, None, Ok, refl, ap, subst, arith}
use Rattle.std.specs.List.{AllByRecursion, flat_map, filter_map}
use Rattle.std.specs.List.Sorted.{IsPermutation}
use Rattle.std.proofs.lemmas.Bool.Decides.{nat_tests}
use Rattle.sqlite.specs.Order.{Row}
use Rattle.sqlite.specs.Term.{Term, col}
use Rattle.sqlite.specs.Tree.{Trees, rowid}
use Rattle.sqlite.specs.Source.TheVariants.{Values}
use Rattle.sqlite.specs.Command.TheVariants.{Insert, Delete}
use Rattle.sqlite.specs.Listing.{understood}
use Rattle.sqlite.specs.Program.{overlay}
use Rattle.sqlite.specs.Query.{IsAnswer}
use Rattle.sqlite.specs.Rowids.TheVariants.{Chosen, Given}
use Rattle.sqlite.specs.State.{State, Executes}
use Rattle.sqlite.proofs.Callers.{one_step, runs_as, statement_of}
use Rattle.sqlite_rules.proofs.ListLemmas.{all_from, all_has}
use Rattle.sqlite_rules.proofs.PlaceLemmas.{named_parent}
use Rattle.sqlite_rules.proofs.RuleLemmas.{same_table}
use Rattle.sqlite_rules.specs.Action.{Writes, deed_for, pairs, work_by, work_for, works}
use Rattle.sqlite_rules.specs.Calls.{ids_of}
use Rattle.sqlite_rules.specs.Edit.{Applies, edit_of, taken_by}
use Rattle.sqlite_rules.specs.Lists.{Has}
use Rattle.sqlite_rules.specs.declared.action.Deed.{Deed}
use Rattle.sqlite_schema.specs.Names.{same_name}
use Rattle.sqlite_schema.specs.Rules.{ParentKey, parent_key}
use Rattle.sqlite_schema.specs.declared.schema.Keys.{Keys}
use Rattle.sqlite_schema.specs.declared.schema.Keys.TheVariants.{Enforced}
use Rattle.sqlite_schema.specs.declared.schema.Reference.{Reference}
use Rattle.sqlite_schema.specs.declared.schema.Schema.{Schema}
use Rattle.sqlite_schema.specs.declared.schema.Table.{Table as Described}
use Rattle.sqlite_trees.specs.Tree.{IsAscending}
use Rattle.plan_tables_schema.proofs.RowLemmas.{left_after}
use Rattle.plan_tables_schema.proofs.SeveralLemmas.{PutsRows, placed_all, puts_are_placed}
use Rattle.plan_tables_schema.proofs.Steps.{deletes, inserts, plain_query, plain_rows}
use Rattle.plan_tables_schema.specs.Cells.{delete_tests, width}
use Rattle.plan_tables_schema.specs.Rows.{AreOfKinds, HaveRowids, matches}
use Rattle.plan_tables_schema.specs.Schema.{checks, columns, key, name, orders, primary, references, table_at, uniques}
use Rattle.plan_tables_schema.specs.Texts.{delete_sql}
use Rattle.plan_tables_schema.specs.declared.tables.Table.{Table}
use Rattle.plan_tables_schema.specs.Places.{TableIsAt, TreesDiffer}
use Rattle.plan_tables_schema.proofs.TextMeanings.{delete_means}

-- ---- what a step sets off

none_mapped : {X Y : Type 0} (f : X → Option Y) (xs : List X) → AllByRecursion (λ x. f x ≡ None) xs → filter_map f xs ≡ []
none_mapped f [] all = refl
none_mapped f (x ∷ xs) all = rw all.0 (none_mapped f xs all.1)

flat_none : {X Y : Type 0} (f : X → List Y) (xs : List X) → AllByRecursion (λ x. f x ≡ []) xs → flat_map f xs ≡ []
flat_none f [] all = refl
flat_none f (x ∷ xs) all = rw all.0 (flat_none f xs all.1)

not_both : {X : Type 0} (b : Bool) (x : X) → cond (b && false) (Some x) None ≡ None
not_both true x = refl
not_both false x = refl

no_moves : (depth tree : ℕ) (child : Described) (ref : Reference) (deed : Option Deed) (key : Option ParentKey) → work_by depth tree [] child ref deed key ≡ None
no_moves depth tree child ref None key = refl
no_moves depth tree child ref (Some deed) None = refl
no_moves depth tree child ref (Some deed) (Some k) = not_both (k.0 == tree) _

-- rows that are put in set nothing off
pub none_taken : (schema : Schema) (keys : Keys) (depth tree : ℕ) (news : List Row) → works schema keys depth tree [] news ≡ []
none_taken schema keys depth tree news = flat_none _ schema.tables (all_from _ schema.tables (λ child _. none_mapped _ child.references
    (all_from _ child.references (λ ref _. no_moves depth tree child ref (deed_for keys (length news == 0) ref) (parent_key schema.tables ref)))))

-- no table refers to it
abbrev pub IsUnreferred : Schema → Described → Type 0
IsUnreferred schema table = AllByRecursion (λ child. AllByRecursion (λ ref. same_name table.name ref.parent ≡ false) child.references) schema.tables

-- nor do those that are taken out, of a table that none refers to
module _ (schema : Schema) (table : Described) (has : Has schema.tables table) (apart : IsAscending TreesDiffer schema.tables) where
  other_key : (ref : Reference) (k : ParentKey) → same_name table.name ref.parent ≡ false → parent_key schema.tables ref ≡ Some k → (k.0 == table.tree) ≡ false
  other_key ref k other is =
      let it = named_parent schema.tables ref k is in
      go (k.0 == table.tree) refl it.0 it.1 it.2 it.3
    where
      go : (b : Bool) → (k.0 == table.tree) ≡ b → (d : Described) → Has schema.tables d → d.tree ≡ k.0 → same_name d.name ref.parent ≡ true → b ≡ false
      go false e d in_it same named = refl
      go true e d in_it same named =
          let one : d ≡ table = same_table schema.tables d table apart in_it has (same ∙ grind (arith, nat_tests)) in
          absurd (let a = ap (λ (u : Described). same_name u.name ref.parent) one in cc)

  pub no_work : (keys : Keys) (depth : ℕ) (olds news : List Row) (child : Described) (ref : Reference) → same_name table.name ref.parent ≡ false
      → work_for schema keys depth table.tree olds news child ref ≡ None
  no_work keys depth olds news child ref other = go (deed_for keys (length news == 0) ref) (parent_key schema.tables ref) refl
    where
      go : (deed : Option Deed) (key : Option ParentKey) → parent_key schema.tables ref ≡ key → work_by depth table.tree (pairs olds news) child ref deed key ≡ None
      go None key is = refl
      go (Some deed) None is = refl
      go (Some deed) (Some k) is = rw (other_key ref k other is) refl

  pub none_referred : IsUnreferred schema table → (keys : Keys) (depth : ℕ) (olds news : List Row) → works schema keys depth table.tree olds news ≡ []
  none_referred unreferred keys depth olds news = flat_none _ schema.tables (all_from _ schema.tables (λ child listed. none_mapped _ child.references
      (all_from _ child.references (λ ref there. no_work keys depth olds news child ref
      (all_has _ child.references ref (all_has _ schema.tables child unreferred listed) there)))))

-- ---- the effect

-- the rows of each other table stay
abbrev pub KeepsOthers : Schema → ℕ → Trees → Trees → Type 0
KeepsOthers schema tree old new = AllByRecursion (λ d. d.tree ≢ tree → new d.tree ≡ old d.tree) schema.tables

module _ (schema : Schema) (at tree : ℕ) (t : Table) (it : TableIsAt schema (table_at tree t) at) where
  pub own : (db : Trees) → overlay db [] tree ≡ db tree
  own db = rw it.stored refl

  pub puts_rows : (sql : List ℕ) (terms : List Term) (given : ℕ) (values : Row) (rows : List Row)
      → PutsRows t sql terms given values rows → (old new : State) (count : ℕ) → old.now.schema ≡ schema
      → AllByRecursion (AreOfKinds t) rows → Executes sql values old new (Ok count)
      → (new.now.schema ≡ schema) × (new.now.trees tree ≡ placed_all t rows (old.now.trees tree))
      × KeepsOthers schema tree old.now.trees new.now.trees
      × (HaveRowids (old.now.trees tree) → HaveRowids (placed_all t rows (old.now.trees tree)))
  puts_rows sql terms given values rows puts old new count has kinds h =
      let means = puts.means schema at tree it in
      let text = statement_of sql (understood schema sql) in
      let w = runs_as sql values old new schema has (Insert at (Values terms (width t))) means.is means.plain count h in
      let step = inserts schema at (name t) tree (columns t) (key t) (primary t) (uniques t) (orders t) (checks t) (references t) it.got
      (none_taken schema Enforced 0 tree) old new terms (width t) values text count has w in
      let applies = subst (λ l. Applies schema Enforced old.now.trees (edit_of old.now.trees (table_at tree t) [] Chosen 0 l) new.now.trees) puts.rows_are step.1 in
      let put = puts_are_placed t rows (old.now.trees tree) kinds (applies.keyed, applies.fresh) in
      (step.0, applies.rows ∙ put.0, applies.tables, put.1)

  -- the rows that have the key go, where what that sets off leaves it at one step
  pub takes_rows_by : (values : Row) (old new : State) (count : ℕ) → old.now.schema ≡ schema → HaveRowids (old.now.trees tree)
      → ((rows : List Row) (next : Trees) → IsPermutation (map (λ r. rowid r ∷ []) (filter (matches t values) (old.now.trees tree))) rows
      → Writes schema Enforced old.now.trees (edit_of old.now.trees (table_at tree t) (ids_of rows) Given 0 []) (Ok next)
      → Applies schema Enforced old.now.trees (edit_of old.now.trees (table_at tree t) (ids_of rows) Given 0 []) next)
      → Executes (delete_sql t) values old new (Ok count)
      → (new.now.schema ≡ schema) × (new.now.trees tree ≡ filter (λ r. not (matches t values r)) (old.now.trees tree))
      × KeepsOthers schema tree old.now.trees new.now.trees
  takes_rows_by values old new count has rowids settle h =
      let means = delete_means schema at tree t it in
      let q = plain_query tree (delete_tests t) (col 1 0 ∷ []) in
      let db = old.now.trees in
      let seen = λ (found : List Row) (a : IsAnswer q (overlay db []) values found). plain_rows tree (delete_tests t) (col 1 0 ∷ []) db values found (own db) a in
      let w = runs_as (delete_sql t) values old new schema has (Delete at (record { lets = []; body = q })) means.is means.plain count h in
      let step = deletes schema at (name t) tree (columns t) (key t) (primary t) (uniques t) (orders t) (checks t) (references t) it.got old new q values
      (λ rows next a writes. settle rows next (seen rows a) writes)
      (statement_of (delete_sql t) (understood schema (delete_sql t))) count has w in (
        step.0,
        step.1.2.rows ∙ left_after (matches t values) (db tree) step.1.0 rowids (seen step.1.0 step.1.1),
        step.1.2.tables,
      )

  pub takes_rows : (values : Row) (old new : State) (count : ℕ) → old.now.schema ≡ schema → HaveRowids (old.now.trees tree)
      → ((olds : List Row) → works schema Enforced 0 tree olds [] ≡ [])
      → Executes (delete_sql t) values old new (Ok count)
      → (new.now.schema ≡ schema) × (new.now.trees tree ≡ filter (λ r. not (matches t values r)) (old.now.trees tree))
      × KeepsOthers schema tree old.now.trees new.now.trees
  takes_rows values old new count has rowids idle h = takes_rows_by values old new count has rowids (λ rows next same writes.
      let edit = edit_of old.now.trees (table_at tree t) (ids_of rows) Given 0 [] in
      one_step schema Enforced old.now.trees next edit (idle (taken_by old.now.trees edit)) writes) h
