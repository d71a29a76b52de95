-- The tables of a plan stand once the two that change are made anew.
use Rattle.std.proofs.Common.{◌≡◌, ◌≢◌, ◌⊎◌, ◌∙◌, ◌+◌, ◌==◌, ℕ, Bool, true, false, not, inl, inr, List, [], ◌∷◌, ◌++◌, length, refl, sym, ap, subst, arith, true≢false}
use Rattle.std.specs.List.{AllByRecursion, list_any}
use Rattle.std.proofs.lemmas.Bool.{cases_Bool, eq-eqb, ne_eqb}
use Rattle.sqlite.specs.Change.{KeepsRows, created, next_tree}
use Rattle.sqlite.specs.Effect.{Database, IsDatabase}
use Rattle.sqlite.specs.Schema.{Schema}
use Rattle.sqlite.specs.State.{State}
use Rattle.sqlite.specs.Table.{Table as Described}
use Rattle.sqlite_catalog.proofs.ListFacts.{ascending_push}
use Rattle.sqlite_catalog.proofs.StepLemmas.{table_below}
use Rattle.sqlite_keyed.proofs.ListLemmas.{all-append}
use Rattle.sqlite_rules.proofs.ListLemmas.{all_from, all_has, has_got, has_kept}
use Rattle.sqlite_rules.specs.Lists.{Has}
use Rattle.sqlite_schema.specs.Names.{same_name}
use Rattle.sqlite_trees.specs.Objects.{catalog_tree}
use Rattle.sqlite_trees.specs.Tree.{IsAscending}
use Rattle.plan_tables_schema.specs.Made.{earlier, later}
use Rattle.plan_tables_schema.specs.Places.{TableIsAt, TreesDiffer, tree_named}
use Rattle.plan_tables_schema.specs.Rows.{HaveRowids, IsPlan, KeepsBeside, tables_of}
use Rattle.plan_tables_schema.specs.Schema.{HasTables, IsAside, RefersAside, all_tables, name, table_at, to_run_cycle}
use Rattle.plan_tables_schema.specs.declared.tables.Table.{Table}
use Rattle.plan_tables_schema.specs.declared.tables.Table.TheVariants.{LinkInForce, Offset, Predecessor}
use Rattle.plan_tables_schema.proofs.CreatedLemmas.{stands_last, stands_still}
use Rattle.plan_tables_schema.proofs.EachLemmas.{in_order}
use Rattle.plan_tables_schema.proofs.NamedLemmas.{tells, tree_is}
use Rattle.plan_tables_schema.proofs.StatementLemmas.{moved}
use Rattle.plan_migrations_remaking.specs.FirstSchema.{CanRemake, changed, first_table_at, is_among, is_changed, remade_schema, without}
use Rattle.plan_migrations_remaking.specs.Remaking.{HaveStayingRowids, emptied}
use Rattle.plan_migrations_remaking.specs.Turns.{AreChangedMade}
use Rattle.plan_migrations_remaking.proofs.ChangingLemmas.{free_next, free_one, room_next, room_one}
use Rattle.plan_migrations_remaking.proofs.WithoutLemmas.{all_left, has_left, not_among, stands_left}

-- a table that stays has another name than the two
names_apart : (t : Table) → is_changed t ≡ false → list_any (λ u. same_name (name u) (name t)) changed ≡ false
unfolding same_name
names_apart Predecessor h = absurd (true≢false h)
names_apart LinkInForce h = absurd (true≢false h)
names_apart t h = refl

-- what is in a list is in a longer one
has_push : {X : Type 0} (xs : List X) (y x : X) → Has xs x → Has (xs ++ y ∷ []) x
has_push [] y x has = absurd has
has_push (z ∷ zs) y x (inl same) = inl same
has_push (z ∷ zs) y x (inr later) = inr (has_push zs y x later)

not_not : (b : Bool) → not b ≡ true → b ≡ false
not_not false h = refl
not_not true h = absurd (cc)

-- one of the trees
there : (trees : Table → ℕ) (t : Table) (n : ℕ) → n ≡ trees t → is_among trees all_tables n ≡ true
there trees t n same = subst (λ ts. is_among trees ts n ≡ true) (in_order t) (go (earlier t))
  where
    go : (us : List Table) → is_among trees (us ++ t ∷ later t) n ≡ true
    go [] = rw (eq-eqb n (trees t) same) refl
    go (u ∷ us) = elim (cases_Bool (n == trees u)) [
      | inl is ↦ rw is refl
      | inr is ↦ rw is (go us)
    ]

-- what is none of all is none of the two
fewer : (trees : Table → ℕ) (n : ℕ) → is_among trees all_tables n ≡ false → is_among trees changed n ≡ false
fewer trees n none = rw (apart Predecessor, apart LinkInForce) refl
  where
    apart : (t : Table) → (n == trees t) ≡ false
    apart t = ne_eqb n (trees t) (λ same. true≢false (sym (there trees t n same) ∙ none))

module _ (schema : Schema) (can : CanRemake schema) where
  abbrev trees : Table → ℕ
  trees = can.has.trees

  abbrev left : Schema
  left = without trees changed schema

  abbrev one : Schema
  one = created left (table_at 0 Predecessor)

  -- the tree of each table
  abbrev pub trees_now : Table → ℕ
  trees_now Predecessor = next_tree left
  trees_now LinkInForce = next_tree one
  trees_now t = trees t

  stays : (t : Table) → is_changed t ≡ false → (k : ℕ) × TableIsAt left (first_table_at (trees t) t) k
  stays t other = stands_left schema trees changed (first_table_at (trees t) t) (can.has.at t) (can.has.stands t)
      (not_among schema can.has t changed (names_apart t other))

  stays_on : (table : Described) (k : ℕ) → TableIsAt left table k → TableIsAt (remade_schema trees schema) table k
  stays_on table k it =
      stands_still one table (table_at 0 LinkInForce) k (stands_still left table (table_at 0 Predecessor) k it)

  stands_each : (t : Table) → (k : ℕ) × TableIsAt (remade_schema trees schema) (table_at (trees_now t) t) k
  stands_each Predecessor = (
    length left.tables,
    stands_still one (table_at (next_tree left) Predecessor) (table_at 0 LinkInForce) (length left.tables)
        (stands_last left (table_at 0 Predecessor) (free_one left can.free).0
        (let room = room_one left can.free in omega (arith, room))),
  )
  stands_each LinkInForce = (
    length one.tables,
    stands_last one (table_at 0 LinkInForce) (free_next left can.free).0
        (let room = room_next left can.free in omega (arith, room)),
  )
  stands_each t = let it = stays t refl in (it.0, stays_on (first_table_at (trees t) t) it.0 it.1)

  ascending : IsAscending TreesDiffer (remade_schema trees schema).tables
  ascending = ascending_push TreesDiffer one.tables _ (ascending_push TreesDiffer left.tables _ can.free.apart
      (λ d has same. let below = table_below left d has in omega (arith, below, same)))
      (λ d has same. let below = table_below one d has in omega (arith, below, same))

  abbrev RefersSo : Described → Type 0
  RefersSo d = AllByRecursion (λ ref. IsAside ref ⊎ ((d ≡ table_at (trees Offset) Offset) × (ref ≡ to_run_cycle))) d.references

  refers : RefersAside (remade_schema trees schema) (trees Offset)
  refers = all-append RefersSo one.tables _ (all-append RefersSo left.tables _
      (all_left RefersSo (λ (d : Described). not (is_among trees changed d.tree)) schema.tables can.has.refer) (tt, tt))
      (tt, tt)

  pub has_again : HasTables (remade_schema trees schema)
  has_again = record {
    at = λ t. (stands_each t).0;
    trees = trees_now;
    stands = λ t. (stands_each t).1;
    apart = ascending;
    refer = refers;
  }

  pub known : (t : Table) → is_changed t ≡ false → Has left.tables (first_table_at (trees t) t)
  known t other = let it = stays t other in has_got left.tables it.0 _ it.1.got

  -- a tree that none of the tables had is none of theirs
  pub beside : (d : Described) → Has left.tables d → is_among trees all_tables d.tree ≡ false → (t : Table)
      → d.tree ≢ trees_now t
  beside d has none Predecessor same = let below = table_below left d has in omega (arith, below, same)
  beside d has none LinkInForce same =
      let below = table_below one d (has_push left.tables (table_at (next_tree left) Predecessor) d has) in
      omega (arith, below, same)
  beside d has none t same = true≢false (sym (there trees t d.tree same) ∙ none)

-- ---- the rows

-- the list of objects tells the trees that they had
pub was_told : (base : Database) (can : CanRemake base.schema) → IsDatabase base → (t : Table)
    → tree_named (base.trees catalog_tree) (name t) ≡ can.has.trees t
was_told base can obeys t = tree_is base.schema (first_table_at (can.has.trees t) t) (can.has.at t)
    (base.trees catalog_tree) (can.has.stands t) obeys.lists.listed

module _ (base : Database) (can : CanRemake base.schema) (obeys : IsDatabase base) (s : State)
    (made : AreChangedMade (record { schema = without can.has.trees changed base.schema; trees = base.trees }) s) where
  abbrev has : HasTables (remade_schema can.has.trees base.schema)
  has = has_again base.schema can

  pub is_told : (t : Table) → tree_named (s.now.trees catalog_tree) (name t) ≡ trees_now base.schema can t
  unfolding has_again
  is_told t = tells s.now.schema (moved (remade_schema can.has.trees base.schema) s.now.schema (sym made.schema) has)
      (s.now.trees catalog_tree) made.obeys.lists.listed t

  same_rows : (t : Table) → is_changed t ≡ false → s.now.trees (can.has.trees t) ≡ tables_of base.trees t
  same_rows t other = all_has (λ (d : Described). s.now.trees d.tree ≡ base.trees d.tree)
      (without can.has.trees changed base.schema).tables (first_table_at (can.has.trees t) t) made.others
      (known base.schema can t other) ∙ ap base.trees (sym (was_told base can obeys t))

  rows_each : (t : Table) → tables_of s.now.trees t ≡ emptied (tables_of base.trees) t
  rows_each Predecessor = ap s.now.trees (is_told Predecessor) ∙ made.empty.0
  rows_each LinkInForce = ap s.now.trees (is_told LinkInForce) ∙ made.empty.1.0
  rows_each t = ap s.now.trees (is_told t) ∙ same_rows t refl

  pub rows_again : tables_of s.now.trees ≡ emptied (tables_of base.trees)
  rows_again = λ i t. rows_each t i

  rowids_each : HaveStayingRowids (tables_of base.trees) → (t : Table) → HaveRowids (emptied (tables_of base.trees) t)
  rowids_each have Predecessor = tt
  rowids_each have LinkInForce = tt
  rowids_each have t = have t refl

  pub plan_again : HaveStayingRowids (tables_of base.trees) → IsPlan s
  unfolding has_again
  plan_again have = record {
    schema = moved (remade_schema can.has.trees base.schema) s.now.schema (sym made.schema) has;
    told = is_told;
    rowids = λ t. subst HaveRowids (sym (rows_each t)) (rowids_each have t);
  }

  -- what leaves the tables beside the plan leaves those that were there
  pub others_again : (new : State) → KeepsBeside s.now new.now
      → KeepsRows (without can.has.trees all_tables base.schema).tables base.trees new.now.trees
  others_again new keeps = all_from (λ (d : Described). new.now.trees d.tree ≡ base.trees d.tree)
      (without can.has.trees all_tables base.schema).tables (λ d there.
      let was = has_left (λ (u : Described). not (is_among can.has.trees all_tables u.tree)) base.schema.tables d there in
      let none = not_not (is_among can.has.trees all_tables d.tree) was.1 in
      let stays = has_kept (λ (u : Described). not (is_among can.has.trees changed u.tree)) base.schema.tables d was.0
      (ap not (fewer can.has.trees d.tree none)) in
      let listed = subst (λ (schema : Schema). Has schema.tables d) (sym made.schema) (has_pushed d stays) in
      all_has (λ (u : Described). ((t : Table) → u.tree ≢ tree_named (s.now.trees catalog_tree) (name t))
      → new.now.trees u.tree ≡ s.now.trees u.tree) s.now.schema.tables d keeps listed
      (λ t same. beside base.schema can d stays none t (same ∙ is_told t))
      ∙ all_has (λ (u : Described). s.now.trees u.tree ≡ base.trees u.tree)
      (without can.has.trees changed base.schema).tables d made.others stays)
    where
      has_pushed : (d : Described) → Has (without can.has.trees changed base.schema).tables d
          → Has (remade_schema can.has.trees base.schema).tables d
      has_pushed d has = has_push _ _ d (has_push _ _ d has)
