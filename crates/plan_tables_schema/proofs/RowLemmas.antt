-- Rows that are put among others, and rows that are taken out.
use Rattle.std.proofs.Common.{◌≡◌, ℤ, Bool, true, false, not, cond, ◌||◌, List, []}
use Rattle.std.proofs.Common.{◌∷◌, map, filter, refl, sym, ap, ◌∙◌, Ordering, Less, Equal, Greater}
use Rattle.std.proofs.Common.{is_eq, IsTrue}
use Rattle.std.specs.List.{AllByRecursion, list_any}
use Rattle.std.specs.List.Sorted.{IsPermutation}
use Rattle.std.specs.Ordering.{match_ordering}
use Rattle.std.proofs.lemmas.Cmp.{tied_back, tied_itself}
use Rattle.std.proofs.lemmas.List.Sorted.{list_any-IsPermutation}
use Rattle.sqlite_keyed.proofs.ListLemmas.{all_both, all_of, all-filter, none_from_any, any_from_none}
use Rattle.sqlite_trees.proofs.ListLemmas.{filter_same}
use Rattle.sqlite_value.specs.declared.value.Value.{Value}
use Rattle.sqlite_value.specs.declared.value.Value.TheVariants.{Null, Int, Real, Text, Blob}
use Rattle.sqlite_value.specs.Order.{Row, value_cmp}
use Rattle.sqlite_value.proofs.OrderLemmas.{value_cmp_total}
use Rattle.sqlite_trees.specs.Tree.{rowid, has_rowid, put_row, without_rowid}
use Rattle.sqlite_trees.specs.View.{is_int}
use Rattle.sqlite_rules.specs.Edit.{id_in, is_taken, without_all}
use Rattle.sqlite_rules.specs.Calls.{ids_of}
use Rattle.plan_tables_schema.specs.Rows.{placed, Differ, HaveRowids}

equal_from : (o : Ordering) → is_eq o ≡ true → o ≡ Equal
equal_from Less h = cc
equal_from Equal h = refl
equal_from Greater h = cc

or_false : (a b : Bool) → (a || b) ≡ false → (a ≡ false) × (b ≡ false)
or_false true b h = cc
or_false false b h = (refl, h)

-- where no row has the rowid of the new one, it is put without taking the place of another
pub put_is_placed : (new : Row) (rows : List Row) → is_taken rows new ≡ false → put_row new rows ≡ placed new rows
put_is_placed new [] h = refl
put_is_placed new (r ∷ rs) h = go (value_cmp (rowid r) (rowid new)) (or_false _ _ h).0 (put_is_placed new rs
    (or_false _ _ h).1)
  where
    go : (o : Ordering) → is_eq o ≡ false → put_row new rs ≡ placed new rs
        → match_ordering o (r ∷ put_row new rs) (new ∷ rs) (new ∷ r ∷ rs) ≡ match_ordering o (r ∷ placed new rs) (r
        ∷ placed new rs) (new ∷ r ∷ rs)
    go Less e more = ap (λ l. r ∷ l) more
    go Equal e more = cc
    go Greater e more = refl

pub differ_back : (a b : Row) → Differ a b → Differ b a
differ_back a b h = go (is_eq (value_cmp (rowid b) (rowid a))) refl
  where
    go : (e : Bool) → is_eq (value_cmp (rowid b) (rowid a)) ≡ e → e ≡ false
    go true same =
        let back : value_cmp (rowid a) (rowid b) ≡ Equal = tied_back value_cmp_total _ _ (equal_from _ same) in
        let one : true ≡ false = sym (ap is_eq back) ∙ h in cc
    go false same = refl

-- a test of all rows that the new one passes is passed after it is placed
pub all_placed : (P : Row → Type 0) (new : Row) (rows : List Row) → P new → AllByRecursion P rows
    → AllByRecursion P (placed new rows)
all_placed P new [] is all = (is, tt)
all_placed P new (r ∷ rs) is all = go (value_cmp (rowid r) (rowid new)) (all_placed P new rs is all.1)
  where
    go : (o : Ordering) → AllByRecursion P (placed new rs) → AllByRecursion P (match_ordering o (r ∷ placed new rs)
        (r ∷ placed new rs) (new ∷ r ∷ rs))
    go Less more = (all.0, more)
    go Equal more = (all.0, more)
    go Greater more = (is, all)

untaken : (new : Row) (rows : List Row) → is_taken rows new ≡ false → AllByRecursion (λ r. Differ r new) rows
untaken new rows h = none_from_any (λ r. is_eq (value_cmp (rowid r) (rowid new))) rows h

pub rowids_placed : (new : Row) (rows : List Row) → IsTrue (is_int (rowid new)) → is_taken rows new ≡ false
    → HaveRowids rows → HaveRowids (placed new rows)
rowids_placed new [] is free all = (is, tt, tt)
rowids_placed new (r ∷ rs) is free all =
    go (value_cmp (rowid r) (rowid new)) (rowids_placed new rs is (or_false _ _ free).1 all.2)
  where
    after_r : AllByRecursion (Differ r) (placed new rs)
    after_r = all_placed (Differ r) new rs (or_false _ _ free).0 all.1

    before_all : AllByRecursion (Differ new) (r ∷ rs)
    before_all = all_both (λ s. Differ s new) (λ s. Differ s new) (Differ new) (λ s h k. differ_back s new h) (r ∷
        rs) (untaken new (r ∷ rs) free) (untaken new (r ∷ rs) free)

    go : (o : Ordering) → HaveRowids (placed new rs) → HaveRowids (match_ordering o (r ∷ placed new rs) (r ∷ placed
        new rs) (new ∷ r ∷ rs))
    go Less more = (all.0, after_r, more)
    go Equal more = (all.0, after_r, more)
    go Greater more = (is, before_all, all)

pub rowids_filter : (p : Row → Bool) (rows : List Row) → HaveRowids rows → HaveRowids (filter p rows)
rowids_filter p [] all = tt
rowids_filter p (r ∷ rs) all = go (p r) (rowids_filter p rs all.2)
  where
    go : (b : Bool) → HaveRowids (filter p rs) → HaveRowids (cond b (r ∷ filter p rs) (filter p rs))
    go true more = (all.0, all-filter _ p rs all.1, more)
    go false more = more

-- ---- the rows of some rowids are taken out

abbrev has_one : List ℤ → Row → Bool
has_one ids r = list_any (λ id. has_rowid id r) ids

split_filter : (p q : Row → Bool) (rows : List Row) → filter (λ r. not (q r)) (filter (λ r. not (p r)) rows) ≡
    filter (λ r. not (p r || q r)) rows
split_filter p q [] = refl
split_filter p q (r ∷ rs) = go (p r) (q r) (split_filter p q rs) refl
  where
    go : (a b : Bool) → filter (λ s. not (q s)) (filter (λ s. not (p s)) rs) ≡ filter (λ s. not (p s || q s)) rs
        → q r ≡ b
        → filter (λ s. not (q s)) (cond (not a) (r ∷ filter (λ s. not (p s)) rs) (filter (λ s. not (p s)) rs)) ≡
        cond (not (a || b)) (r ∷ filter (λ s. not (p s || q s)) rs) (filter (λ s. not (p s || q s)) rs)
    go true b more e = more
    go false true more e = rw (e, more)
    go false false more e = rw (e, more)

all_kept : (rows : List Row) → rows ≡ filter (λ r. true) rows
all_kept [] = refl
all_kept (r ∷ rs) = ap (λ l. r ∷ l) (all_kept rs)

without_is : (ids : List ℤ) (rows : List Row) → without_all rows ids ≡ filter (λ r. not (has_one ids r)) rows
without_is [] rows = all_kept rows
without_is (id ∷ ids) rows = without_is ids (without_rowid id rows) ∙ split_filter (has_rowid id) (has_one ids) rows

pub id_back : (v : Value) → IsTrue (is_int v) → Int (id_in v) ≡ v
id_back Null h = absurd (let e = h in cc)
id_back (Int n) h = refl
id_back (Real x) h = absurd (let e = h in cc)
id_back (Text t) h = absurd (let e = h in cc)
id_back (Blob b) h = absurd (let e = h in cc)

any_mapped : {A B : Type 0} (p : B → Bool) (f : A → B) (xs : List A)
    → list_any p (map f xs) ≡ list_any (λ x. p (f x)) xs
any_mapped p f [] = refl
any_mapped p f (x ∷ xs) = ap (λ b. p (f x) || b) (any_mapped p f xs)

-- the row has the rowid of one that passes the test
abbrev is_like : (Row → Bool) → List Row → Row → Bool
is_like test rows r = list_any (λ s. is_eq (value_cmp (rowid r) (rowid s))) (filter test rows)

any_of_ids : (rows : List Row) (r : Row) → HaveRowids rows → has_one (ids_of (map (λ s. rowid s ∷ []) rows)) r ≡
    list_any (λ s. is_eq (value_cmp (rowid r) (rowid s))) rows
any_of_ids [] r all = refl
any_of_ids (s ∷ ss) r all = λ i. is_eq (value_cmp (rowid r) (id_back (rowid s) all.0 i)) || any_of_ids ss r all.2 i

pub tied : (r : Row) → is_eq (value_cmp (rowid r) (rowid r)) ≡ true
tied r = ap is_eq (tied_itself value_cmp_total (rowid r))

none_like : (test : Row → Bool) (r : Row) (rows : List Row) → AllByRecursion (Differ r) rows
    → is_like test rows r ≡ false
none_like test r rows all = any_from_none _ (filter test rows) (all-filter _ test rows all)

alike : (test : Row → Bool) (rows : List Row) → HaveRowids rows
    → AllByRecursion (λ r. is_like test rows r ≡ test r) rows
alike test [] all = tt
alike test (r ∷ rs) all = (first (test r) refl, rest (alike test rs all.2))
  where
    first : (b : Bool) → test r ≡ b → list_any (λ s. is_eq (value_cmp (rowid r) (rowid s))) (cond b (r ∷ filter
        test rs) (filter test rs)) ≡ b
    first true e = ap (λ c. c || is_like test rs r) (tied r)
    first false e = none_like test r rs all.1

    wider : (b : Bool) (s : Row) → Differ r s → is_like test rs s ≡ test s
        → list_any (λ q. is_eq (value_cmp (rowid s) (rowid q))) (cond b (r ∷ filter test rs) (filter test rs)) ≡
        test s
    wider true s apart is = ap (λ c. c || is_like test rs s) (differ_back r s apart) ∙ is
    wider false s apart is = is

    rest : AllByRecursion (λ s. is_like test rs s ≡ test s) rs
        → AllByRecursion (λ s. is_like test (r ∷ rs) s ≡ test s) rs
    rest = all_both (Differ r) (λ s. is_like test rs s ≡ test s) (λ s. is_like test (r ∷ rs) s ≡ test s) (wider
        (test r)) rs all.1

-- where the rowids of those that pass a test are taken out, in any order, the others are left
pub left_after : (test : Row → Bool) (rows found : List Row) → HaveRowids rows
    → IsPermutation (map (λ r. rowid r ∷ []) (filter test rows)) found
    → without_all rows (ids_of found) ≡ filter (λ r. not (test r)) rows
left_after test rows found all same = without_is (ids_of found) rows
    ∙ filter_same _ _ rows (all_both _ (λ _. Unit {0}) _ (λ r is _. ap not (one r
    ∙ is)) rows (alike test rows all) (all_of _ (λ _. tt) rows))
  where
    one : (r : Row) → has_one (ids_of found) r ≡ is_like test rows r
    one r = any_mapped (λ id. has_rowid id r) (λ s. id_in (rowid s)) found
        ∙ sym (list_any-IsPermutation (λ s. has_rowid (id_in (rowid s)) r) _ found same)
        ∙ sym (any_mapped (λ id. has_rowid id r) (λ s. id_in (rowid s)) (map (λ s. rowid s ∷ []) (filter test
        rows)))
        ∙ any_of_ids (filter test rows) r (rowids_filter test rows all)
