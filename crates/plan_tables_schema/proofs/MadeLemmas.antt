-- The tables of a plan, made one after the other behind other tables.
use Rattle.std.proofs.Common.{◌≡◌, ◌≤◌, ◌<◌, ◌+◌, ◌++◌, ◌∙◌, ◌⊎◌, inl, inr, ℕ, true, false, List, [], ◌∷◌, length, map, find}
use Rattle.std.proofs.Common.{slice_get, ◌==◌, refl, sym, ap, subst, arith}
use Rattle.std.specs.List.{AllByRecursion, list_all}
use Rattle.std.proofs.lemmas.List.Elements.{All-from_recursion, recursion_from_All}
use Rattle.sqlite.specs.Change.{created, next_tree}
use Rattle.sqlite.specs.Does.{lacks_sequence}
use Rattle.sqlite.specs.Schema.{Schema}
use Rattle.sqlite.specs.Table.{Table as Described}
use Rattle.sqlite_catalog.specs.Change.{automatics, is_used}
use Rattle.sqlite_catalog.specs.Listing.{automatic}
use Rattle.sqlite_catalog.proofs.ListFacts.{ascending_push}
use Rattle.sqlite_catalog.proofs.StepLemmas.{table_below}
use Rattle.sqlite_keyed.proofs.ListLemmas.{all-append}
use Rattle.sqlite_rules.proofs.ListLemmas.{all_from, all_has, has_got}
use Rattle.sqlite_tied.specs.Compute.{everything}
use Rattle.sqlite_schema.specs.declared.schema.Index.{Index}
use Rattle.sqlite_trees.specs.Tree.{IsAscending}
use Rattle.plan_tables_schema.specs.Free.{AreAside, IsFree, with_plan, with_tables}
use Rattle.plan_tables_schema.specs.Made.{AllMade, earlier, later}
use Rattle.plan_tables_schema.specs.Places.{TableIsAt, TreesDiffer}
use Rattle.plan_tables_schema.specs.Schema.{HasOnlyKeyIndexes, HasTables, IsAside, IsKeyIndex, all_tables, name}
use Rattle.plan_tables_schema.specs.Schema.{indexes, indexes_of, no_schema, plan_schema, table, table_at, to_run_cycle}
use Rattle.plan_tables_schema.specs.Schema.{tree, uniques}
use Rattle.plan_tables_schema.specs.declared.tables.Table.{Table}
use Rattle.plan_tables_schema.specs.declared.tables.Table.TheVariants.{Meta, CalendarEntry, Period, Application}
use Rattle.plan_tables_schema.specs.declared.tables.Table.TheVariants.{RunCycle, Offset, Predecessor, LinkInForce}
use Rattle.plan_tables_schema.specs.declared.tables.Table.TheVariants.{LongTerm, Current, History, Deletion}
use Rattle.plan_tables_schema.specs.declared.tables.Table.TheVariants.{Dependency, Job}
use Rattle.plan_tables_schema.proofs.StopLemmas.{some_same}
use Rattle.plan_tables_schema.proofs.EachLemmas.{all_each, asides_each, in_order}
use Rattle.plan_tables_schema.proofs.CreatedLemmas.{AreFree, front_all, got_last, is_clear, next_below, rest_all}
use Rattle.plan_tables_schema.proofs.CreatedLemmas.{stands_last, stands_still, stay_free, stays_uncounted}

pub made_then : (us vs : List Table) (schema : Schema) (t : Table)
    → with_tables schema (us ++ t ∷ vs) ≡ with_tables (created (with_tables schema us) (table_at 0 t)) vs
made_then [] vs schema t = refl
made_then (u ∷ us) vs schema t = made_then us vs (created schema (table_at 0 u)) t

-- ---- nothing stands in the way of the next

-- the table's name, and those of the indexes of its keys
abbrev pub names_of : Table → List (List ℕ)
names_of t = name t ∷ map (λ i. i.name) (automatics (table_at 0 t) 0 0 (uniques t))

abbrev pub all_names : List Table → List (List ℕ)
all_names [] = []
all_names (t ∷ ts) = names_of t ++ all_names ts

-- how many trees they take
abbrev pub trees_of : List Table → ℕ
trees_of [] = 0
trees_of (t ∷ ts) = 1 + length (uniques t) + trees_of ts

-- these tables can be made, one after the other
pub record CanMakeEach (schema : Schema) (left : List Table) : Type 0 where
  pub free : AreFree schema (all_names left)
  pub room : next_tree schema + trees_of left ≤ 65536
  pub uncounted : lacks_sequence schema ≡ false

-- none of them has a name of those after it
abbrev AreClear : List Table → Type 0
AreClear [] = Unit {0}
AreClear (t ∷ ts) = ((tree next : ℕ) → list_all (λ n. is_clear n (table_at tree t) next) (all_names ts) ≡ true)
    × AreClear ts

all_clear : AreClear all_tables
unfolding everything
all_clear = ((λ tree next. refl), ((λ tree next. refl), ((λ tree next. refl), ((λ tree next. refl), ((λ tree next. refl), ((λ tree next. refl), ((λ tree next. refl), ((λ tree next. refl), ((λ tree next. refl), ((λ tree next. refl), ((λ tree next. refl), ((λ tree next. refl), ((λ tree next. refl), ((λ tree next. refl), tt))))))))))))))

goes_on : (schema : Schema) (t : Table) (left : List Table) → AreClear (t ∷ left) → CanMakeEach schema (t ∷ left)
    → CanMakeEach (created schema (table_at 0 t)) left
goes_on schema t left clear can = record {
  free = stay_free schema (table_at 0 t) (all_names left) (rest_all _ (names_of t) (all_names left) can.free)
      (clear.0 (next_tree schema) (next_tree schema + 1));
  room = omega (arith, can.room, next_below schema (table_at 0 t));
  uncounted = stays_uncounted schema (table_at 0 t) refl can.uncounted;
}

after : (us left : List Table) (schema : Schema) → AreClear (us ++ left) → CanMakeEach schema (us ++ left)
    → CanMakeEach (with_tables schema us) left
after [] left schema clear can = can
after (u ∷ us) left schema clear can =
    after us left (created schema (table_at 0 u)) clear.1 (goes_on schema u (us ++ left) clear can)

module _ (schema : Schema) where
  abbrev Unused : List ℕ → Type 0
  Unused n = is_used schema n ≡ false

  abbrev IsUnused : Index → Type 0
  IsUnused i = Unused i.name

  -- the index of a key has the same name in whatever tree it is
  keys_free : (t : Table) → AllByRecursion IsUnused (map (λ places. automatic (table t) 0 places (tree t + 1)) (uniques t))
      → AllByRecursion Unused (map (λ i. i.name) (automatics (table_at 0 t) 0 0 (uniques t)))
  unfolding everything
  keys_free Meta h = h
  keys_free t h = h

  names_free : (ts : List Table) → AllByRecursion (λ d. Unused d.name) (map table ts)
      → AllByRecursion IsUnused (indexes_of ts) → AreFree schema (all_names ts)
  names_free [] tables keys = tt
  names_free (t ∷ ts) tables keys = (
    tables.0,
    all-append Unused _ (all_names ts)
        (keys_free t (front_all IsUnused _ (indexes_of ts) keys))
        (names_free ts tables.1 (rest_all IsUnused _ (indexes_of ts) keys)),
  )

begins : (schema : Schema) → IsFree schema → CanMakeEach schema all_tables
begins schema is = record {
  free = names_free schema all_tables
      (recursion_from_All (λ (d : Described). is_used schema d.name ≡ false) plan_schema.tables is.unused.tables)
      (recursion_from_All (λ (i : Index). is_used schema i.name ≡ false) indexes is.unused.indexes);
  room = let room : next_tree schema + 14 + 10 ≤ 65536 = is.room in omega (arith, room);
  uncounted = is.uncounted;
}

pub can_make : (schema : Schema) → IsFree schema → (t : Table) → CanMakeEach (with_tables schema (earlier t)) (t ∷ later t)
can_make schema is t = after (earlier t) (t ∷ later t) schema (subst AreClear (sym (in_order t)) all_clear)
    (subst (CanMakeEach schema) (sym (in_order t)) (begins schema is))

-- ---- what is so of each

back_made : (P : Described → Type 0) (us : List Table) (schema : Schema) → AllByRecursion P schema.tables
    → AllMade P schema us → AllByRecursion P (with_tables schema us).tables
back_made P [] schema all news = all
back_made P (u ∷ us) schema all news = back_made P us (created schema (table_at 0 u))
    (all-append P schema.tables (table_at (next_tree schema) u ∷ []) all (news.0, tt)) news.1

pub all_made : (P : Described → Type 0) (us : List Table) (schema : Schema)
    → AllByRecursion P (with_tables schema us).tables → AllByRecursion P schema.tables × AllMade P schema us
all_made P [] schema all = (all, tt)
all_made P (u ∷ us) schema all =
    let new : Described = table_at (next_tree schema) u in
    let later = all_made P us (created schema (table_at 0 u)) all in
    (front_all P schema.tables (new ∷ []) later.0, ((rest_all P schema.tables (new ∷ []) later.0).0, later.1))

pub made_both : (P Q R : Described → Type 0) → ((d : Described) → P d → Q d → R d) → (us : List Table)
    (schema : Schema) → AllMade P schema us → AllMade Q schema us → AllMade R schema us
made_both P Q R both [] schema p q = tt
made_both P Q R both (u ∷ us) schema p q =
    (both _ p.0 q.0, made_both P Q R both us (created schema (table_at 0 u)) p.1 q.1)

pub made_last : (P : Described → Type 0) (us : List Table) (schema : Schema) (t : Table) → AllMade P schema us
    → P (table_at (next_tree (with_tables schema us)) t) → AllMade P schema (us ++ t ∷ [])
made_last P [] schema t all last = (last, tt)
made_last P (u ∷ us) schema t all last = (all.0, made_last P us (created schema (table_at 0 u)) t all.1 last)

made_at : (P : Described → Type 0) (us vs : List Table) (schema : Schema) (t : Table)
    → AllMade P schema (us ++ t ∷ vs) → P (table_at (next_tree (with_tables schema us)) t)
made_at P [] vs schema t all = all.0
made_at P (u ∷ us) vs schema t all = made_at P us vs (created schema (table_at 0 u)) t all.1

-- the tree in which the table is made
abbrev pub tree_for : Schema → Table → ℕ
tree_for schema t = next_tree (with_tables schema (earlier t))

pub each_made : (P : Described → Type 0) (schema : Schema) → AllMade P schema all_tables → (t : Table)
    → P (table_at (tree_for schema t) t)
each_made P schema all t =
    made_at P (earlier t) (later t) schema t (subst (AllMade P schema) (sym (in_order t)) all)

-- ---- so the plan stands

still : (vs : List Table) (schema : Schema) (table : Described) (at : ℕ) → TableIsAt schema table at
    → TableIsAt (with_tables schema vs) table at
still [] schema table at it = it
still (v ∷ vs) schema table at it =
    still vs (created schema (table_at 0 v)) table at (stands_still schema table (table_at 0 v) at it)

apart_made : (us : List Table) (schema : Schema) → IsAscending TreesDiffer schema.tables
    → IsAscending TreesDiffer (with_tables schema us).tables
apart_made [] schema apart = apart
apart_made (u ∷ us) schema apart = apart_made us (created schema (table_at 0 u))
    (ascending_push TreesDiffer schema.tables _ apart (λ d has same. let below = table_below schema d has in
    omega (arith, below, same)))

rises : (us : List Table) (schema : Schema) → next_tree schema ≤ next_tree (with_tables schema us)
rises [] schema = omega arith
rises (u ∷ us) schema =
    let new = table_at (next_tree schema) u in
    let next = created schema (table_at 0 u) in
    let below = table_below next new (has_got _ _ new (got_last schema.tables new)) in
    omega (arith, below, rises us next)

-- the references of a table are to none of the plan, but for those of the offsets in this tree
abbrev IsAsideFor : ℕ → Described → Type 0
IsAsideFor n d = AllByRecursion (λ ref. IsAside ref ⊎ ((d ≡ table_at n Offset) × (ref ≡ to_run_cycle))) d.references

abbrev AreOwn : (Table → ℕ) → Described → Type 0
AreOwn trees d = AllByRecursion (IsKeyIndex trees) (automatics d 0 (d.tree + 1) d.uniques)

-- the index of its key is its own
new_own : (trees : Table → ℕ) (n : ℕ) (u : Table) → ((t : Table) → n ≡ trees t → uniques t ≡ uniques u)
    → AreOwn trees (table_at n u)
new_own trees n Meta same = tt
new_own trees n Current same = tt
new_own trees n Deletion same = tt
new_own trees n Job same = tt
new_own trees n u same = ((λ t it. (same t it, refl)), tt)

indexes_made : (trees : Table → ℕ) (us : List Table) (schema : Schema)
    → AllByRecursion (IsKeyIndex trees) schema.indexes → AllMade (AreOwn trees) schema us
    → AllByRecursion (IsKeyIndex trees) (with_tables schema us).indexes
indexes_made trees [] schema own news = own
indexes_made trees (u ∷ us) schema own news = indexes_made trees us (created schema (table_at 0 u))
    (all-append (IsKeyIndex trees) schema.indexes _ own news.0) news.1

module _ (schema : Schema) (is : IsFree schema) where
  stands_each : (t : Table)
      → TableIsAt (with_plan schema) (table_at (tree_for schema t) t) (length (with_tables schema (earlier t)).tables)
  stands_each t =
      let before = with_tables schema (earlier t) in
      let can = can_make schema is t in
      let room = can.room in
      let new = stands_last before (table_at 0 t) can.free.0 (omega (arith, room)) in
      subst (λ s. TableIsAt s (table_at (next_tree before) t) (length before.tables)) (sym (made_then (earlier t)
      (later t) schema t) ∙ ap (with_tables schema) (in_order t)) (still (later t) (created before (table_at 0 t))
      _ _ new)

  aside : (n : ℕ) → AllByRecursion (IsAsideFor n) schema.tables
  aside n = all_from (IsAsideFor n) schema.tables (λ d has. all_from _ d.references (λ ref here.
      inl (all_has IsAside d.references ref (asides_each table (λ t. refl) d (all_has (AreAside plan_schema.tables)
      schema.tables d (recursion_from_All (AreAside plan_schema.tables) schema.tables is.aside) has)) here)))

  offsets_alone : AllMade (IsAsideFor (tree_for schema Offset)) schema all_tables
  offsets_alone = (tt, (tt, (tt, (tt, (tt, ((inr (refl, refl), tt), (tt, (tt, (tt, (tt, (tt, (tt, (tt, (tt, tt))))))))))))))

  -- once they are made, the tables of the plan stand
  pub plan_stands : HasTables (with_plan schema)
  plan_stands = record {
    at = λ t. length (with_tables schema (earlier t)).tables;
    trees = tree_for schema;
    stands = stands_each;
    apart = apart_made all_tables schema is.apart;
    refer = back_made (IsAsideFor (tree_for schema Offset)) all_tables schema (aside (tree_for schema Offset))
        offsets_alone;
  }

  pub stands_for : (t : Table) → plan_stands.trees t ≡ tree_for schema t
  unfolding plan_stands
  stands_for t = refl

  -- a table stands in no other tree than that in which it is made
  one_tree : (has : HasTables (with_plan schema)) (t : Table) → has.trees t ≡ tree_for schema t
  one_tree has t =
      let mine = stands_each t in
      let place : has.at t ≡ length (with_tables schema (earlier t)).tables =
      some_same (sym (has.stands t).named ∙ mine.named) in
      ap (λ (d : Described). d.tree) (some_same (sym (has.stands t).got
      ∙ ap (slice_get (with_plan schema).tables) place ∙ mine.got))

  -- so it stands above those that were there
  pub stands_above : (has : HasTables (with_plan schema)) (t : Table) → next_tree schema ≤ has.trees t
  stands_above has t = subst (λ n. next_tree schema ≤ n) (sym (one_tree has t)) (rises (earlier t) schema)

  same_uniques : (u t : Table) → tree_for schema u ≡ tree_for schema t → uniques t ≡ uniques u
  same_uniques u t same = ap (λ (d : Described). d.uniques) (some_same (sym (stands_each t).found
      ∙ ap (λ n. find (λ d. d.tree == n) (with_plan schema).tables) (sym same) ∙ (stands_each u).found))

  news_own : AllMade (AreOwn (tree_for schema)) schema all_tables
  news_own = (new_own _ _ Meta (same_uniques Meta), (new_own _ _ CalendarEntry (same_uniques CalendarEntry), (new_own _ _ Period (same_uniques Period), (new_own _ _ Application (same_uniques Application), (new_own _ _ RunCycle (same_uniques RunCycle), (new_own _ _ Offset (same_uniques Offset), (new_own _ _ Predecessor (same_uniques Predecessor), (new_own _ _ LinkInForce (same_uniques LinkInForce), (new_own _ _ LongTerm (same_uniques LongTerm), (new_own _ _ Current (same_uniques Current), (new_own _ _ History (same_uniques History), (new_own _ _ Deletion (same_uniques Deletion), (new_own _ _ Dependency (same_uniques Dependency), (new_own _ _ Job (same_uniques Job), tt))))))))))))))

  olds_own : AllByRecursion (IsKeyIndex (tree_for schema)) schema.indexes
  olds_own = all_from _ schema.indexes (λ i has t same.
      let low = all_has _ schema.indexes i (recursion_from_All (λ (i : Index). i.table < next_tree schema) schema.indexes
      is.indexed) has in absurd (omega (arith, low, same, rises (earlier t) schema)))

  pub key_indexes : HasOnlyKeyIndexes (with_plan schema)
  key_indexes has = subst (λ (trees : Table → ℕ). AllByRecursion (IsKeyIndex trees) (with_plan schema).indexes)
      (λ i t. sym (one_tree has t) i) (indexes_made (tree_for schema) all_tables schema olds_own news_own)

-- ---- an empty database

unused_in_nothing : (n : List ℕ) → is_used no_schema n ≡ false
unfolding everything
unused_in_nothing n = refl

pub nothing_is_free : IsFree no_schema
unfolding everything
nothing_is_free = record {
  unused = record {
    tables = all_each table (λ (d : Described). is_used no_schema d.name ≡ false) (λ t. unused_in_nothing (name t));
    indexes = All-from_recursion (λ (i : Index). is_used no_schema i.name ≡ false) indexes
        (all_from _ indexes (λ i has. unused_in_nothing i.name));
  };
  room = omega arith;
  aside = All-from_recursion (AreAside plan_schema.tables) [] tt;
  apart = tt;
  indexed = All-from_recursion (λ (i : Index). i.table < next_tree no_schema) [] tt;
  uncounted = refl;
}

pub plan_alone : with_plan no_schema ≡ plan_schema
plan_alone = refl
