-- What an edit of one table leaves of the rules, wherever the table stands.
use Rattle.std.proofs.Common.{◌≡◌, ◌≢◌, ◌⊎◌, ◌||◌, ◌&&◌, ◌∙◌, not, true, false, inl, inr, List, Option, Some, None, refl, sym, ap, subst}
use Rattle.std.specs.List.{list_all}
use Rattle.std.proofs.lemmas.Bool.{and_from, and_parts, both_ways, cases_eq, false_from_ne_true, not-true, not_from_false}
use Rattle.sqlite.specs.Order.{Row}
use Rattle.sqlite.specs.Tree.{Trees, rowid}
use Rattle.sqlite_rules.proofs.KeyLemmas.{agree_back, differ_back}
use Rattle.sqlite_rules.proofs.ListLemmas.{all_has, has_got, some_from, some_has, test_from, test_has}
use Rattle.sqlite_rules.proofs.PlaceLemmas.{named_parent}
use Rattle.sqlite_rules.proofs.RuleLemmas.{keeps_at, keeps_from, refers_at, refers_from, same_table}
use Rattle.sqlite_rules.specs.Lists.{Has}
use Rattle.sqlite_schema.specs.Names.{same_name}
use Rattle.sqlite_schema.specs.Rules.{Keeps, ParentKey, Refers, agree, clashes, differ, guards, has_null, has_parent, is_held, parent_key, passes}
use Rattle.sqlite_schema.specs.declared.schema.Among.TheVariants.{All as Whole}
use Rattle.sqlite_schema.specs.declared.schema.Constraint.TheVariants.{Unique}
use Rattle.sqlite_schema.specs.declared.schema.Index.{Index}
use Rattle.sqlite_schema.specs.declared.schema.Reference.{Reference}
use Rattle.sqlite_schema.specs.declared.schema.Schema.{Schema}
use Rattle.sqlite_schema.specs.declared.schema.Table.{Table as Described}
use Rattle.sqlite_trees.specs.Tree.{IsAscending}
use Rattle.plan_tables_schema.specs.Schema.{HasTables, IsAside, name, references, table_at, to_run_cycle}
use Rattle.plan_tables_schema.specs.declared.tables.Table.{Table}
use Rattle.plan_tables_schema.specs.declared.tables.Table.TheVariants.{RunCycle}
use Rattle.plan_tables_schema.specs.declared.tables.Table.TheVariants.{Offset}
use Rattle.plan_tables_schema.specs.Places.{TreesDiffer}

-- ---- another table has the rows that it had, and this one no rows but its own and the new ones

module _ (schema : Schema) (table : Described) (known : Has schema.tables table) (apart : IsAscending TreesDiffer schema.tables) (db next : Trees) (news : List Row)
    (others : (d : Described) → Has schema.tables d → d.tree ≢ table.tree → next d.tree ≡ db d.tree)
    (from : (r : Row) → Has (next table.tree) r → Has news r ⊎ Has (db table.tree) r) where
  module _ (free : (i : Index) → Has schema.indexes i → guards i table ≡ true
      → (r : Row) → Has news r → clashes i.order i.columns (next table.tree) r ≡ false)
      (keeps : Keeps Unique schema db) where
    no_clash : (i : Index) → Has schema.indexes i → guards i table ≡ true → (row : Row)
        → Has (next table.tree) row → clashes i.order i.columns (next table.tree) row ≡ true → ⊥
    no_clash i listed on row there clash = elim (from row there) [
      | inl fresh ↦ both_ways _ (free i listed on row fresh) clash
      | inr kept ↦
          let other = some_has _ _ clash in
          let parts = and_parts _ _ other.2 in
          elim (from other.0 other.1) [
            | inl fresh ↦ both_ways _ (free i listed on other.0 fresh) (some_from _ _ row there (and_from _ _
                (agree_back _ _ _ _ _ parts.0) (differ_back _ _ parts.1)))
            | inr also ↦ both_ways _ (not-true _ (test_has (λ (x : Index). not (guards x table && clashes x.order x.columns
                (db table.tree) row)) schema.indexes i (keeps_at Unique schema db table row keeps known kept) listed))
                (and_from _ _ on (some_from (λ (x : Row). agree i.order i.columns x i.columns row && differ (rowid x)
                (rowid row)) _ other.0 also other.2))
          ]
    ]

    pub unique_still : Keeps Unique schema next
    unique_still = keeps_from Unique schema next (λ d row listed there. elim (cases_eq d.tree table.tree) [
      | inl same ↦
          let here = subst (λ n. Has (next n) row) same there in
          subst (λ (x : Described). passes Unique schema next x row ≡ true) (sym (same_table schema.tables d table apart listed known same))
          (test_from _ schema.indexes (λ i within. not_from_false _ (false_from_ne_true _ (λ both. let parts
          = and_parts _ _ both in no_clash i within parts.0 row here parts.1))))
      | inr other ↦ subst (λ rows. list_all (λ (i : Index). not (guards i d && clashes i.order i.columns rows row))
          schema.indexes ≡ true) (sym (others d listed other)) (keeps_at Unique schema db d row
          keeps listed (subst (λ rows. Has rows row) (others d listed other) there))
    ])

  -- the parent of a row of another table stays, where that is not this table
  pub held : (ref : Reference) (row : Row) → same_name table.name ref.parent ≡ false → (o : Option ParentKey)
      → parent_key schema.tables ref ≡ o → is_held next ref.columns row o ≡ is_held db ref.columns row o
  held ref row aside None is = refl
  held ref row aside (Some key) is =
      let parent = named_parent schema.tables ref key is in
      let kept : next parent.0.tree ≡ db parent.0.tree = others parent.0 parent.1 (λ same.
      let one = same_table schema.tables parent.0 table apart parent.1 known same in
      both_ways _ aside (subst (λ (d : Described). same_name d.name ref.parent ≡ true) one parent.3)) in
      rw (← parent.2, kept) refl

module _ (schema : Schema) (it : HasTables schema) (t : Table) where
  pub is_listed : Has schema.tables (table_at (it.trees t) t)
  is_listed = has_got schema.tables (it.at t) _ (it.stands t).got

  -- a reference of the plan is that of the offsets
  only : (u : Table) (ref : Reference) → Has (references u) ref → ref ≡ to_run_cycle
  only Offset ref (inl same) = same
  only Offset ref (inr none) = absurd none
  only t ref has = absurd has

  own_name : same_name (name RunCycle) to_run_cycle.parent ≡ true
  unfolding same_name
  own_name = refl

  -- where each offset has its run cycle, each row has what it refers to
  module _ (db next : Trees) (news : List Row)
      (others : (d : Described) → Has schema.tables d → d.tree ≢ it.trees t → next d.tree ≡ db d.tree)
      (from : (r : Row) → Has (next (it.trees t)) r → Has news r ⊎ Has (db (it.trees t)) r) where
    pub refers_still : Refers Whole schema db
        → ((row : Row) → Has (next (it.trees Offset)) row → has_parent schema.tables next row to_run_cycle ≡ true)
        → Refers Whole schema next
    refers_still refers offsets = refers_from Whole schema next (λ d ref row listed known is there.
        go d ref row listed known there (all_has _ d.references ref (all_has _ schema.tables d it.refer listed) known))
      where
        go : (d : Described) (ref : Reference) (row : Row) → Has schema.tables d → Has d.references ref → Has (next d.tree) row
            → IsAside ref ⊎ ((d ≡ table_at (it.trees Offset) Offset) × (ref ≡ to_run_cycle))
            → has_parent schema.tables next row ref ≡ true
        go d ref row listed known there (inr own) =
            subst (λ ref. has_parent schema.tables next row ref ≡ true) (sym own.1) (offsets row (subst (λ (x : Described). Has (next x.tree) row) own.0 there))
        go d ref row listed known there (inl aside) =
            let kept = others d listed (λ same.
            let one = same_table schema.tables d (table_at (it.trees t) t) it.apart listed is_listed same in
            let mine = only t ref (subst (λ (x : Described). Has x.references ref) one known) in
            both_ways _ (subst (λ (r : Reference). same_name (name RunCycle) r.parent ≡ false) mine (aside RunCycle)) own_name) in
            ap (λ b. has_null ref.columns row || b) (held schema (table_at (it.trees t) t) is_listed it.apart db next news others from ref row (aside t) (parent_key schema.tables ref) refl)
            ∙ refers_at Whole schema db d row ref refers listed (subst (λ rows. Has rows row) kept there) known refl
