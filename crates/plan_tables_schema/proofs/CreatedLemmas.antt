-- A table that is made stands last, and each that stood stands where it was; names that are free stay free.
use Rattle.std.proofs.Common.{◌≡◌, ◌≤◌, ◌<◌, ◌+◌, ◌^◌, ◌==◌, ◌||◌, ◌&&◌, ◌++◌, ◌∙◌, inl, inr, ℕ, zero, suc, max}
use Rattle.std.proofs.Common.{Bool, true, false, not, is_some, cond, List, [], ◌∷◌, length, fold, find, slice_get}
use Rattle.std.proofs.Common.{Option, None, Some, option_and_then, refl, ap, arith, codes}
use Rattle.std.specs.List.{AllByRecursion, list_any, list_all, position_from}
use Rattle.std.proofs.lemmas.Bool.{and_cases, and_left, and_right, eq-eqb, lt-leb, ne_eqb, not_from_true, or_parts}
use Rattle.sqlite.specs.Change.{created, next_tree}
use Rattle.sqlite.specs.Does.{lacks_sequence}
use Rattle.sqlite.specs.Rows.{sequence}
use Rattle.sqlite.specs.Schema.{Schema}
use Rattle.sqlite.specs.Table.{Table as Described}
use Rattle.sqlite_catalog.specs.Change.{automatics, is_used, past_views}
use Rattle.sqlite_catalog.proofs.ListFacts.{most_from}
use Rattle.sqlite_catalog.proofs.StepLemmas.{index_below, no_index, no_table, no_view, same_itself, table_below}
use Rattle.sqlite_keyed.proofs.ListLemmas.{all-append}
use Rattle.sqlite_rules.proofs.ListLemmas.{all_from}
use Rattle.sqlite_rules.specs.Lists.{Has}
use Rattle.sqlite_schema.specs.Names.{same_name, table_named}
use Rattle.sqlite_schema.specs.declared.schema.Index.{Index}
use Rattle.plan_tables_schema.specs.Places.{TableIsAt}

module _ {X : Type 0} (p : X → Bool) where
  placed_in_front : (xs ys : List X) (from at : ℕ) → position_from p from xs ≡ Some at
      → position_from p from (xs ++ ys) ≡ Some at
  placed_in_front [] ys from at h = absurd (cc)
  placed_in_front (x ∷ xs) ys from at h = go (p x) (placed_in_front xs ys (from + 1) at) h
    where
      go : (b : Bool) → (position_from p (from + 1) xs ≡ Some at → position_from p (from + 1) (xs ++ ys) ≡ Some at)
          → cond b (Some from) (position_from p (from + 1) xs) ≡ Some at
          → cond b (Some from) (position_from p (from + 1) (xs ++ ys)) ≡ Some at
      go true more h = h
      go false more h = more h

  placed_last : (xs : List X) (y : X) (from : ℕ) → position_from p from xs ≡ None → p y ≡ true
      → position_from p from (xs ++ y ∷ []) ≡ Some (from + length xs)
  placed_last [] y from none is = rw is (ap Some (omega arith))
  placed_last (x ∷ xs) y from none is =
      go (p x) (λ n i. placed_last xs y (from + 1) n i ∙ ap Some (omega arith)) none is
    where
      go : (b : Bool) → (position_from p (from + 1) xs ≡ None → p y ≡ true
          → position_from p (from + 1) (xs ++ y ∷ []) ≡ Some (from + length (x ∷ xs)))
          → cond b (Some from) (position_from p (from + 1) xs) ≡ None → p y ≡ true
          → cond b (Some from) (position_from p (from + 1) (xs ++ y ∷ [])) ≡ Some (from + length (x ∷ xs))
      go true more none is = absurd (cc)
      go false more none is = more none is

  none_more : (xs ys : List X) (from : ℕ) → position_from p from xs ≡ None → list_any p ys ≡ false
      → position_from p from (xs ++ ys) ≡ None
  none_more [] [] from none h = refl
  none_more [] (y ∷ ys) from none h = go (p y) (none_more [] ys (from + 1) refl) h
    where
      go : (b : Bool) → (list_any p ys ≡ false → position_from p (from + 1) ys ≡ None)
          → (b || list_any p ys) ≡ false → cond b (Some from) (position_from p (from + 1) ys) ≡ None
      go true more h = absurd (cc)
      go false more h = more h
  none_more (x ∷ xs) ys from none h = go (p x) (none_more xs ys (from + 1)) none
    where
      go : (b : Bool) → (position_from p (from + 1) xs ≡ None → list_any p ys ≡ false
          → position_from p (from + 1) (xs ++ ys) ≡ None)
          → cond b (Some from) (position_from p (from + 1) xs) ≡ None
          → cond b (Some from) (position_from p (from + 1) (xs ++ ys)) ≡ None
      go true more none = absurd (cc)
      go false more none = more none h

  found_in_front : (xs ys : List X) (x : X) → find p xs ≡ Some x → find p (xs ++ ys) ≡ Some x
  found_in_front [] ys x h = absurd (cc)
  found_in_front (y ∷ xs) ys x h = go (p y) (found_in_front xs ys x) h
    where
      go : (b : Bool) → (find p xs ≡ Some x → find p (xs ++ ys) ≡ Some x) → cond b (Some y) (find p xs) ≡ Some x
          → cond b (Some y) (find p (xs ++ ys)) ≡ Some x
      go true more h = h
      go false more h = more h

  found_last : (xs : List X) (y : X) → ((x : X) → Has xs x → p x ≡ false) → p y ≡ true
      → find p (xs ++ y ∷ []) ≡ Some y
  found_last [] y none is = rw is refl
  found_last (x ∷ xs) y none is = rw (none x (inl refl)) (found_last xs y (λ z h. none z (inr h)) is)

  any_more : (xs : List X) (y : X) → list_any p xs ≡ false → p y ≡ false → list_any p (xs ++ y ∷ []) ≡ false
  any_more [] y none last = rw last refl
  any_more (x ∷ xs) y none last =
      let both = or_parts (p x) (list_any p xs) none in
      rw (both.0, any_more xs y both.1 last) refl

got_in_front : {X : Type 0} (xs ys : List X) (at : ℕ) (x : X) → slice_get xs at ≡ Some x
    → slice_get (xs ++ ys) at ≡ Some x
got_in_front [] ys at x h = absurd (cc)
got_in_front (y ∷ xs) ys zero x h = h
got_in_front (y ∷ xs) ys (suc at) x h = got_in_front xs ys at x h

pub got_last : {X : Type 0} (xs : List X) (y : X) → slice_get (xs ++ y ∷ []) (length xs) ≡ Some y
got_last [] y = refl
got_last (x ∷ xs) y = got_last xs y

pub front_all : {X : Type 0} (P : X → Type 0) (xs ys : List X) → AllByRecursion P (xs ++ ys) → AllByRecursion P xs
front_all P [] ys h = tt
front_all P (x ∷ xs) ys h = (h.0, front_all P xs ys h.1)

pub rest_all : {X : Type 0} (P : X → Type 0) (xs ys : List X) → AllByRecursion P (xs ++ ys) → AllByRecursion P ys
rest_all P [] ys h = h
rest_all P (x ∷ xs) ys h = rest_all P xs ys h.1

-- what stood stands still
pub stands_still : (schema : Schema) (table new : Described) (at : ℕ) → TableIsAt schema table at
    → TableIsAt (created schema new) table at
stands_still schema table new at it = record {
  named = placed_in_front (λ (t : Described). same_name t.name table.name) schema.tables _ 0 at it.named;
  got = got_in_front schema.tables _ at table it.got;
  found = found_in_front (λ (t : Described). t.tree == table.tree) schema.tables _ table it.found;
  stored = it.stored;
}

-- what is made stands last
pub stands_last : (schema : Schema) (new : Described) → is_used schema new.name ≡ false → next_tree schema < 65536
    → TableIsAt (created schema new) (record new { tree = next_tree schema }) (length schema.tables)
stands_last schema new free low =
    let made : Described = record new { tree = next_tree schema } in
    let first : 0 + length schema.tables ≡ length schema.tables = omega arith in
    record {
      named = placed_last (λ (t : Described). same_name t.name new.name) schema.tables made 0
          (no_table schema new.name free) (same_itself new.name) ∙ ap Some first;
      got = got_last schema.tables made;
      found = found_last (λ (t : Described). t.tree == next_tree schema) schema.tables made
          (λ t h. ne_eqb t.tree (next_tree schema) (λ same. let low = table_below schema t h in
          absurd (omega (arith, low, same)))) (eq-eqb (next_tree schema) (next_tree schema) refl);
      stored = lt-leb (2 ^ 31) (next_tree schema) (omega (arith, low));
    }

-- ---- the names stay free

-- neither the table nor an index of its keys has the name
abbrev pub is_clear : List ℕ → Described → ℕ → Bool
is_clear n new tree =
    not (same_name new.name n) && not (list_any (λ i. same_name i.name n) (automatics new 0 tree new.uniques))

not_false : (b : Bool) → not b ≡ true → b ≡ false
not_false false h = refl
not_false true h = absurd (cc)

true_not : (b : Bool) → not b ≡ false → b ≡ true
true_not true h = refl
true_not false h = absurd (cc)

pub both_true : (a b : Bool) → (a && b) ≡ true → (a ≡ true) × (b ≡ true)
both_true true b h = (refl, h)
both_true false b h = absurd (cc)

stays_free : (schema : Schema) (new : Described) (n : List ℕ) → is_used schema n ≡ false
    → is_clear n (record new { tree = next_tree schema }) (next_tree schema + 1) ≡ true
    → is_used (created schema new) n ≡ false
stays_free schema new n free clear =
    let made : Described = record new { tree = next_tree schema } in
    let apart = both_true (not (same_name new.name n)) _ clear in
    let other = not_false (same_name new.name n) apart.0 in
    let none = none_more (λ (t : Described). same_name t.name n) schema.tables (made ∷ []) 0 (no_table schema n free)
    (rw other refl) in
    let unmarked = none_more (λ (i : Index). same_name i.name n) schema.indexes (automatics made 0 (next_tree schema
    + 1) new.uniques) 0 (no_index schema n free) (not_false _ apart.1) in
    rw (none, unmarked, no_view schema n free) refl

abbrev pub AreFree : Schema → List (List ℕ) → Type 0
AreFree schema = AllByRecursion (λ n. is_used schema n ≡ false)

pub stay_free : (schema : Schema) (new : Described) (ns : List (List ℕ)) → AreFree schema ns
    → list_all (λ n. is_clear n (record new { tree = next_tree schema }) (next_tree schema + 1)) ns ≡ true
    → AreFree (created schema new) ns
stay_free schema new [] free clear = tt
stay_free schema new (n ∷ ns) free clear =
    let both = both_true (is_clear n (record new { tree = next_tree schema }) (next_tree schema + 1)) _ clear in
    (stays_free schema new n free.0 both.0, stay_free schema new ns free.1 both.1)

-- ---- how many trees there are

fold_below : {X : Type 0} (f : X → ℕ) (xs : List X) (start bound : ℕ) → start ≤ bound
    → AllByRecursion (λ x. f x < bound) xs → fold (λ n x. max n (f x + 1)) start xs ≤ bound
fold_below f [] start bound low all = low
fold_below f (x ∷ xs) start bound low all =
    fold_below f xs (max start (f x + 1)) bound (omega (arith, low, all.0)) all.1

automatics_below : (new : Described) (keys : List (List ℕ)) (at tree bound : ℕ) → tree + length keys ≤ bound
    → AllByRecursion (λ (i : Index). i.tree < bound) (automatics new at tree keys)
automatics_below new [] at tree bound low = tt
automatics_below new (k ∷ keys) at tree bound low =
    (omega (arith, low), automatics_below new keys (at + 1) (tree + 1) bound (omega (arith, low)))

pub next_below : (schema : Schema) (new : Described)
    → next_tree (created schema new) ≤ next_tree schema + 1 + length new.uniques
next_below schema new =
    let n = next_tree schema in
    let bound = n + 1 + length new.uniques in
    let made : Described = record new { tree = n } in
    let views : past_views schema ≤ n = omega (
      arith,
      most_from (λ (u : Described). u.tree) (past_views schema)
          schema.tables,
      most_from (λ (i : Index). i.tree) (fold (λ m u. max m (u.tree + 1)) (past_views schema)
          schema.tables) schema.indexes,
    ) in
    let tables = all-append (λ (u : Described). u.tree < bound) schema.tables (made ∷ []) (all_from (λ (u : Described).
    u.tree < bound) schema.tables (λ u h. let low = table_below schema u h in omega (arith, low))) (omega arith, tt) in
    let indexes = all-append (λ (i : Index). i.tree < bound) schema.indexes (automatics made 0 (n + 1) new.uniques)
    (all_from (λ (i : Index). i.tree < bound) schema.indexes (λ i h. let low = index_below schema i h in
    omega (arith, low))) (automatics_below made new.uniques 0 (n + 1) bound (omega arith)) in
    fold_below (λ (i : Index). i.tree) (schema.indexes ++ automatics made 0 (n + 1) new.uniques) _ bound
    (fold_below (λ (u : Described). u.tree) (schema.tables ++ made ∷ []) (past_views schema) bound
    (omega (arith, views)) tables) indexes

-- ---- AUTOINCREMENT keeps its table

stays_some : (schema : Schema) (new : Described) (o : Option ℕ) → table_named schema (codes "sqlite_sequence") ≡ o
    → is_some (option_and_then (slice_get schema.tables) o) ≡ true → is_some (sequence (created schema new)) ≡ true
stays_some schema new None named some = absurd (cc)
stays_some schema new (Some at) named some = go (slice_get schema.tables at) refl some
  where
    go : (o : Option Described) → slice_get schema.tables at ≡ o → is_some o ≡ true
        → is_some (sequence (created schema new)) ≡ true
    go None got h = absurd (cc)
    go (Some d) got h =
        let made : Described = record new { tree = next_tree schema } in
        let first = placed_in_front (λ (t : Described). same_name t.name (codes "sqlite_sequence")) schema.tables
        (made ∷ []) 0 at named in
        let still = got_in_front schema.tables (made ∷ []) at d got in
        rw (first, still) refl

pub stays_uncounted : (schema : Schema) (new : Described) → new.is_counted ≡ false → lacks_sequence schema ≡ false
    → lacks_sequence (created schema new) ≡ false
stays_uncounted schema new own none =
    elim (and_cases (list_any (λ t. t.is_counted) schema.tables) (not (is_some (sequence schema))) none) [
      | inl h ↦ and_left _ _ (any_more (λ (t : Described). t.is_counted) schema.tables
          (record new { tree = next_tree schema }) h own)
      | inr h ↦ and_right _ _ (not_from_true _ (stays_some schema new (table_named schema (codes "sqlite_sequence"))
          refl (true_not (is_some (sequence schema)) h)))
    ]
