-- Run cycles that have no offsets are taken out alone, wherever the two tables stand.
use Rattle.std.proofs.Common.{◌≡◌, ◌⊎◌, ◌||◌, ◌∙◌, inl, inr, ℕ, zero, suc, Bool, true, false, cond, nat_lt, IsTrue, List, [], ◌∷◌, ◌++◌, map, filter, find}
use Rattle.std.proofs.Common.{ℤ, Option, Some, None, option_and_then, unwrap_or, Ok, refl, sym, ap, subst, is_eq, true≢false}
use Rattle.std.specs.List.{AllByRecursion, cons_option, flat_map, filter_map, list_any}
use Rattle.std.specs.List.Sorted.{IsPermutation}
use Rattle.std.proofs.lemmas.Bool.{and_parts, eq-eqb}
use Rattle.std.proofs.lemmas.List.Elements.{All-from_recursion, recursion_from_All}
use Rattle.std.proofs.lemmas.List.Sorted.{All-permutation}
use Rattle.sqlite.specs.Order.{Row}
use Rattle.sqlite.specs.Rowids.TheVariants.{Given}
use Rattle.sqlite_keyed.proofs.ListLemmas.{all_both, all_map}
use Rattle.sqlite_rules.proofs.ListLemmas.{all_from, all_has}
use Rattle.sqlite_rules.specs.Action.{ActsOn, AreChildren, End, Leads, Work, Writes, is_child_of, loses, max_depth, pairs, work_for, works}
use Rattle.sqlite_rules.specs.Calls.{ids_of}
use Rattle.sqlite_rules.specs.Edit.{Applies, Edit, edit_of, id_in, row_at, taken_by}
use Rattle.sqlite_rules.specs.Lists.{Has}
use Rattle.sqlite_rules.specs.declared.action.Deed.TheVariants.{Delete}
use Rattle.sqlite_schema.specs.Names.{same_name}
use Rattle.sqlite_schema.specs.Rules.{key_in, key_places, parent_key}
use Rattle.sqlite_schema.specs.declared.schema.Keys.TheVariants.{Enforced}
use Rattle.sqlite_schema.specs.declared.schema.Reference.{Reference}
use Rattle.sqlite_schema.specs.declared.schema.Schema.{Schema}
use Rattle.sqlite_schema.specs.declared.schema.Table.{Table as Described}
use Rattle.sqlite_trees.specs.Tree.{IsAscending, Trees, has_rowid, rowid}
use Rattle.sqlite_trees.specs.View.{is_int}
use Rattle.sqlite_value.specs.Keys.{joined}
use Rattle.sqlite_value.specs.Order.{value_cmp}
use Rattle.sqlite_value.specs.declared.value.Value.TheVariants.{Int}
use Rattle.plan_tables_schema.proofs.CycleLemmas.{child_matches, name_order}
use Rattle.plan_tables_schema.proofs.RowLemmas.{id_back, tied}
use Rattle.plan_tables_schema.specs.Rows.{Differ, HaveRowids, matches}
use Rattle.plan_tables_schema.specs.Schema.{name, table_at, to_run_cycle}
use Rattle.plan_tables_schema.specs.declared.tables.Table.TheVariants.{Offset, RunCycle}
use Rattle.plan_tables_schema.specs.Places.{TableIsAt}
use Rattle.plan_tables_schema.specs.Places.{TreesDiffer}
use Rattle.plan_tables_schema.proofs.EffectLemmas.{KeepsOthers, no_work}
use Rattle.plan_tables_schema.proofs.FoundLemmas.{named_there}

-- ---- actions that find no child end where they began

abbrev pub IsChildless : Trees → Work → Type 0
IsChildless db w = (nat_lt w.depth max_depth ≡ true) × ((r : Row) → Has (db w.child.tree) r → list_any (is_child_of w r) w.moves ≡ true → ⊥)

parted : {X : Type 0} (P : X → Type 0) (xs : List X) (x : X) → AllByRecursion P (xs ++ x ∷ []) → AllByRecursion P xs × P x
parted P [] x all = (tt, all.0)
parted P (y ∷ ys) x all = let rest = parted P ys x all.1 in ((all.0, rest.0), rest.1)

module _ (schema : Schema) (db : Trees) where
  pub ends : (n : ℕ) (stack : List Work) (end : End) → AllByRecursion (IsChildless db) stack → Leads schema Enforced n db stack end → end ≡ Ok db
  ends zero stack end all h = h.1
  ends (suc n) stack end all (below, w, is, acts) =
      let parts = parted (IsChildless db) below w (subst (AllByRecursion (IsChildless db)) is all) in
      let done : (ids : List ℤ) × AreChildren db w ids × ActsOn schema Enforced (Leads schema Enforced n) db w below end ids = rw parts.1.0 at acts in
      go done.0 done.1 done.2 parts.1.1 (ends n below end parts.0)
    where
      go : (ids : List ℤ) → AreChildren db w ids → ActsOn schema Enforced (Leads schema Enforced n) db w below end ids
          → ((r : Row) → Has (db w.child.tree) r → list_any (is_child_of w r) w.moves ≡ true → ⊥)
          → (Leads schema Enforced n db below end → end ≡ Ok db) → end ≡ Ok db
      go [] children rest none later = later rest
      go (id ∷ ids) children rest none later = let child = children.sound id (inl refl) in absurd (none child.0 child.1 child.2)

pub one_step_by : (schema : Schema) (db next : Trees) (edit : Edit)
    → ((mid : Trees) → Applies schema Enforced db edit mid → AllByRecursion (IsChildless mid) (works schema Enforced 0 edit.table.tree (taken_by db edit) edit.news))
    → Writes schema Enforced db edit (Ok next) → Applies schema Enforced db edit next
one_step_by schema db next edit childless (inl refused) = absurd (let e = refused.2 in cc)
one_step_by schema db next edit childless (inr (inl big)) = absurd (let e = big.3 in cc)
one_step_by schema db next edit childless (inr (inr went)) =
    let e = ends schema went.0 went.2.0 _ _ (childless went.0 went.1) went.2.1 in
    let same : went.0 ≡ next = cc in subst (Applies schema Enforced db edit) same went.1

-- ---- what is set off by run cycles

all_flat : {X Y : Type 0} (P : Y → Type 0) (f : X → List Y) (xs : List X) → AllByRecursion (λ x. AllByRecursion P (f x)) xs → AllByRecursion P (flat_map f xs)
all_flat P f [] all = tt
all_flat {Y = Y} P f (x ∷ xs) all = joined_all (f x) all.0 (all_flat P f xs all.1)
  where
    joined_all : (ys : List Y) → AllByRecursion P ys → AllByRecursion P (flat_map f xs) → AllByRecursion P (ys ++ flat_map f xs)
    joined_all [] here rest = rest
    joined_all (y ∷ ys) here rest = (here.0, joined_all ys here.1 rest)

all_mapped : {X Y : Type 0} (P : Y → Type 0) (f : X → Option Y) (xs : List X) → AllByRecursion (λ x. (y : Y) → f x ≡ Some y → P y) xs → AllByRecursion P (filter_map f xs)
all_mapped P f [] all = tt
all_mapped {Y = Y} P f (x ∷ xs) all = go (f x) all.0 (all_mapped P f xs all.1)
  where
    go : (o : Option Y) → ((y : Y) → o ≡ Some y → P y) → AllByRecursion P (filter_map f xs) → AllByRecursion P (cons_option o (filter_map f xs))
    go None here rest = rest
    go (Some y) here rest = (here y refl, rest)

-- ---- the rows that are taken out have the key

ints_of : (rows : List Row) → HaveRowids rows → AllByRecursion (λ r. IsTrue (is_int (rowid r))) rows
ints_of [] all = tt
ints_of (r ∷ rs) all = (all.0, ints_of rs all.2)

own_row : (rows : List Row) → HaveRowids rows → AllByRecursion (λ s. find (has_rowid (id_in (rowid s))) rows ≡ Some
    s) rows
own_row [] all = tt
own_row (r ∷ rs) all = (
  first (is_eq (value_cmp (rowid r) (Int (id_in (rowid r))))) (ap (λ v. is_eq (value_cmp (rowid r) v)) (id_back
      (rowid r) all.0) ∙ tied r),
  later rs all.1 (ints_of rs all.2) (own_row rs all.2),
)
  where
    first : (b : Bool) → b ≡ true → cond b (Some r) (find (has_rowid (id_in (rowid r))) rs) ≡ Some r
    first true e = refl
    first false e = cc

    past : (s : Row) (b : Bool) → b ≡ false → find (has_rowid (id_in (rowid s))) rs ≡ Some s
        → cond b (Some r) (find (has_rowid (id_in (rowid s))) rs) ≡ Some s
    past s true e is = cc
    past s false e is = is

    later : (ss : List Row) → AllByRecursion (Differ r) ss → AllByRecursion (λ s. IsTrue (is_int (rowid s))) ss
        → AllByRecursion (λ s. find (has_rowid (id_in (rowid s))) rs ≡ Some s) ss
        → AllByRecursion (λ s. find (has_rowid (id_in (rowid s))) (r ∷ rs) ≡ Some s) ss
    later [] apart ints more = tt
    later (s ∷ ss) apart ints more = (
      past s _ (ap (λ v. is_eq (value_cmp (rowid r) v)) (id_back (rowid s) ints.0)
          ∙ apart.0) more.0,
      later ss apart.1 ints.1 more.1,
    )

passing : (test : Row → Bool) (Q : Row → Type 0) (rows : List Row) → AllByRecursion (λ r. test r ≡ true
    → Q r) rows → AllByRecursion Q (filter test rows)
passing test Q [] all = tt
passing test Q (r ∷ rs) all = go (test r) refl (passing test Q rs all.1)
  where
    go : (b : Bool) → test r ≡ b → AllByRecursion Q (filter test rs)
        → AllByRecursion Q (cond b (r ∷ filter test rs) (filter test rs))
    go true e more = (all.0 e, more)
    go false e more = more

pub found_pass : (test : Row → Bool) (rows found : List Row) → HaveRowids rows
    → IsPermutation (map (λ r. rowid r ∷ []) (filter test rows)) found
    → AllByRecursion (λ o. test o ≡ true) (map (row_at rows) (ids_of found))
found_pass test rows found all same =
    let Q = λ (x : Row). test (row_at rows (id_in (rowid x))) ≡ true in
    let here : AllByRecursion Q (filter test rows) = passing test Q rows (all_both _ _ (λ r. test r ≡ true
    → Q r) (λ r is _ has. ap (λ o. test (unwrap_or o [])) is
    ∙ has) rows (own_row rows all) (own_row rows all)) in
    let there : AllByRecursion Q (map (λ r. rowid r ∷ []) (filter test rows)) =
    all_map Q (λ r. rowid r ∷ []) (filter test rows) here in
    let seen : AllByRecursion Q found = recursion_from_All Q found (All-permutation Q _ found same
    (All-from_recursion Q _ there)) in
    all_map (λ o. test o ≡ true) (row_at rows) (ids_of found) (all_map (λ id. test (row_at rows id) ≡ true) (λ r.
    id_in (rowid r)) found seen)

-- ---- a run cycle and its offsets

abbrev their_offsets : ℕ → List Row → Work
their_offsets n olds = record { depth = 0; child = table_at n Offset; ref = to_run_cycle; places = 1 ∷ 2 ∷ []; order = name_order; deed = Delete; moves = pairs olds [] }

no_child : (n : ℕ) (key r : Row) (olds os : List Row) → (matches Offset key r ≡ false) → AllByRecursion (λ o. matches RunCycle key o ≡ true) os
    → list_any (is_child_of (their_offsets n olds) r) (pairs os []) ≡ true → ⊥
no_child n key r olds [] apart all h = let e : false ≡ true = h in cc
no_child n key r olds (o ∷ os) apart all h = go (is_child_of (their_offsets n olds) r (o, [])) refl h (no_child n key r olds os apart all.1)
  where
    go : (b : Bool) → is_child_of (their_offsets n olds) r (o, []) ≡ b → (b || list_any (is_child_of (their_offsets n olds) r) (pairs os [])) ≡ true
        → (list_any (is_child_of (their_offsets n olds) r) (pairs os []) ≡ true → ⊥) → ⊥
    go true e h later = absurd (true≢false (sym (child_matches key r o all.0 (and_parts _ _ e).1) ∙ apart))
    go false e h later = later h

-- of all references those of the offsets alone are to the run cycles
abbrev pub OffsetsRefer : Schema → ℕ → Type 0
OffsetsRefer schema n = AllByRecursion (λ child. AllByRecursion (λ ref. (same_name (name RunCycle) ref.parent ≡ false) ⊎ ((child ≡ table_at n Offset) × (ref ≡ to_run_cycle))) child.references) schema.tables

module _ (schema : Schema) (at tree n : ℕ) (it : TableIsAt schema (table_at tree RunCycle) at) (has : Has schema.tables (table_at tree RunCycle))
    (apart : IsAscending TreesDiffer schema.tables) (refer : OffsetsRefer schema n) where
  pub key_is : parent_key schema.tables to_run_cycle ≡ Some (tree, 1 ∷ 2 ∷ [], name_order)
  unfolding joined
  key_is =
      ap (option_and_then (λ t. option_and_then (key_in t) (key_places t [])))
      (named_there schema (table_at tree RunCycle) at it)

  work_is : (olds : List Row) (w : Work) → work_for schema Enforced 0 tree olds [] (table_at n Offset) to_run_cycle ≡ Some w → w ≡ their_offsets n olds
  work_is olds w h = go (list_any (loses name_order (1 ∷ 2 ∷ [])) (pairs olds [])) (rw (key_is, eq-eqb tree tree refl) at h)
    where
      go : (b : Bool) → cond b (Some (their_offsets n olds)) None ≡ Some w → w ≡ their_offsets n olds
      go true h = cc
      go false h = cc

  pub childless : (key : Row) (olds : List Row) (mid : Trees) → AllByRecursion (λ o. matches RunCycle key o ≡ true) olds
      → ((r : Row) → Has (mid n) r → matches Offset key r ≡ false) → AllByRecursion (IsChildless mid) (works schema Enforced 0 tree olds [])
  childless key olds mid all free = all_flat (IsChildless mid) _ schema.tables (all_from _ schema.tables (λ child listed. all_mapped (IsChildless mid) _ child.references
      (all_from _ child.references (λ ref there w is. go child ref w is (all_has _ child.references ref (all_has _ schema.tables child refer listed) there)))))
    where
      go : (child : Described) (ref : Reference) (w : Work) → work_for schema Enforced 0 tree olds [] child ref ≡ Some w
          → (same_name (name RunCycle) ref.parent ≡ false) ⊎ ((child ≡ table_at n Offset) × (ref ≡ to_run_cycle)) → IsChildless mid w
      go child ref w is (inl other) = absurd (let e = sym (no_work schema (table_at tree RunCycle) has apart Enforced 0 olds [] child ref other) ∙ is in cc)
      go child ref w is (inr (same, to)) =
          let one = work_is olds w (subst (λ r. work_for schema Enforced 0 tree olds [] (table_at n Offset) r ≡ Some w) to (subst (λ c. work_for schema Enforced 0 tree olds [] c ref ≡ Some w) same is)) in
          subst (IsChildless mid) (sym one) (refl, λ r there h. no_child n key r olds olds (free r there) all h)

  -- where no offset has the key, taking out the run cycles that have it is one step
  pub cycles_alone : (key : Row) (db next : Trees) (found : List Row) → HaveRowids (db tree)
      → ((r : Row) → Has (db n) r → matches Offset key r ≡ false) → ((mid : Trees) → KeepsOthers schema tree db mid → mid n ≡ db n)
      → IsPermutation (map (λ r. rowid r ∷ []) (filter (matches RunCycle key) (db tree))) found
      → Writes schema Enforced db (edit_of db (table_at tree RunCycle) (ids_of found) Given 0 []) (Ok next)
      → Applies schema Enforced db (edit_of db (table_at tree RunCycle) (ids_of found) Given 0 []) next
  cycles_alone key db next found rowids free still same writes =
      one_step_by schema db next (edit_of db (table_at tree RunCycle) (ids_of found) Given 0 []) (λ mid applies. childless key (map (row_at (db tree)) (ids_of found)) mid
      (found_pass (matches RunCycle key) (db tree) found rowids same)
      (λ r there. free r (subst (λ rows. Has rows r) (still mid applies.tables) there))) writes
