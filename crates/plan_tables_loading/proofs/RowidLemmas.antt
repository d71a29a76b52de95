-- Rowids that differ, and the places of integers.
use Rattle.std.proofs.Common.{◌≡◌, ◌≢◌, ◌∙◌, ℕ, ℤ, pos, negsuc, Bool, true, false, IsTrue, List, [], ◌∷◌, map}
use Rattle.std.proofs.Common.{refl, sym, ap, subst, eqb, arith}
use Rattle.std.specs.List.{All, AllByRecursion, Contains, IsDistinct}
use Rattle.std.specs.Ordering.{is_eq}
use Rattle.std.proofs.lemmas.Bool.{eqb-false, ne_eqb}
use Rattle.std.proofs.lemmas.Cmp.{tied_itself}
use Rattle.std.proofs.lemmas.List.Elements.{All-cons, All-nil}
use Rattle.std.proofs.lemmas.Map.Keys.{IsDistinct-head, IsDistinct-tail}
use Rattle.sqlite.specs.Order.{Row as Values}
use Rattle.sqlite.specs.Tree.{rowid}
use Rattle.sqlite.specs.View.{is_int}
use Rattle.sqlite.specs.declared.types.Value.{Value}
use Rattle.sqlite.specs.declared.types.Value.TheVariants.{Null, Int, Real, Text, Blob}
use Rattle.sqlite_value.specs.Order.{value_cmp}
use Rattle.sqlite_value.proofs.OrderLemmas.{value_cmp_total}
use Rattle.plan_store_lists.proofs.KeyLemmas.{contains_first, contains_later}
use Rattle.plan_tables_schema.specs.Rows.{Differ, HaveRowids}
use Rattle.plan_tables_loading.specs.Rowids.{place_of}
use Rattle.plan_tables_loading.proofs.OrderLemmas.{same_int}

pub integer_in : (v : Value) → IsTrue (is_int v) → (z : ℤ) × (v ≡ Int z)
integer_in (Int z) is = (z, refl)
integer_in Null is = cc
integer_in (Real x) is = cc
integer_in (Text t) is = cc
integer_in (Blob b) is = cc

same_value : (v w : Value) → IsTrue (is_int v) → IsTrue (is_int w) → is_eq (value_cmp v w) ≡ true → v ≡ w
same_value v w is_v is_w is =
    let (y, at_y) = integer_in v is_v in
    let (z, at_z) = integer_in w is_w in
    at_y ∙ ap Int (same_int y z ((λ i. is_eq (value_cmp (sym at_y i) (sym at_z i))) ∙ is)) ∙ sym at_z

-- integers at different places differ
apart_differ : (v w : Value) → IsTrue (is_int v) → IsTrue (is_int w) → place_of v ≢ place_of w
    → is_eq (value_cmp v w) ≡ false
apart_differ v w is_v is_w other = go (is_eq (value_cmp v w)) refl
  where
    go : (b : Bool) → is_eq (value_cmp v w) ≡ b → b ≡ false
    go false e = refl
    go true e = absurd (other (ap place_of (same_value v w is_v is_w e)))

int_at : (y z : ℤ) → place_of (Int y) ≡ place_of (Int z) → y ≡ z
int_at (pos m) (pos n) same = ap pos (omega (arith, same))
int_at (pos m) (negsuc n) same = absurd (omega (arith, same))
int_at (negsuc m) (pos n) same = absurd (omega (arith, same))
int_at (negsuc m) (negsuc n) same = ap negsuc (omega (arith, same))

-- integers that differ are at different places
differ_apart : (v w : Value) → IsTrue (is_int v) → IsTrue (is_int w) → is_eq (value_cmp v w) ≡ false
    → place_of v ≢ place_of w
differ_apart v w is_v is_w other same =
    let (y, at_y) = integer_in v is_v in
    let (z, at_z) = integer_in w is_w in
    let alike : w ≡ v =
    at_z ∙ ap Int (sym (int_at y z (sym (ap place_of at_y) ∙ same ∙ ap place_of at_z))) ∙ sym at_y in
    let tied : is_eq (value_cmp v w) ≡ true =
    ap (λ u. is_eq (value_cmp v u)) alike ∙ ap is_eq (tied_itself value_cmp_total v) in
    absurd (cc)

-- ---- of rows

abbrev pub IsInteger : Values → Type 0
IsInteger row = IsTrue (is_int (rowid row))

abbrev pub rowid_place : Values → ℕ
rowid_place row = place_of (rowid row)

differ_all : (a : Values) (rows : List Values) → IsInteger a → ((r : Values) → Contains rows r → IsInteger r)
    → AllByRecursion (λ m. eqb (rowid_place a) m ≡ false) (map rowid_place rows) → AllByRecursion (Differ a) rows
differ_all a [] is integers apart = tt
differ_all a (r ∷ rs) is integers apart = (
  apart_differ (rowid a) (rowid r) is (integers r (contains_first r rs)) (eqb-false _ _ apart.0),
  differ_all a rs is (λ s there. integers s (contains_later r s rs there)) apart.1,
)

-- integers at different places are own rowids
pub have_rowids : (rows : List Values) → ((r : Values) → Contains rows r → IsInteger r)
    → IsDistinct eqb (map rowid_place rows) → HaveRowids rows
have_rowids [] integers distinct = tt
have_rowids (r ∷ rs) integers distinct =
    let here = integers r (contains_first r rs) in
    let later : (s : Values) → Contains rs s → IsInteger s = λ s there. integers s (contains_later r s rs there) in (
      here,
      differ_all r rs here later (IsDistinct-head eqb _ _ distinct),
      have_rowids rs later (IsDistinct-tail eqb _ _ distinct),
    )

pub integer_rowids : (rows : List Values) → HaveRowids rows → All IsInteger rows
integer_rowids [] have = All-nil IsInteger
integer_rowids (r ∷ rs) have = All-cons IsInteger r rs have.0 (integer_rowids rs have.2)

pub integer_rowid : (rows : List Values) → HaveRowids rows → (r : Values) → Contains rows r → IsInteger r
integer_rowid rows have r (k, low, at) = subst IsInteger at (integer_rowids rows have k r low)

others_apart : (a : Values) (rows : List Values) → IsInteger a → HaveRowids rows → AllByRecursion (Differ a) rows
    → AllByRecursion (λ m. eqb (rowid_place a) m ≡ false) (map rowid_place rows)
others_apart a [] is have differ = tt
others_apart a (r ∷ rs) is have differ = (
  ne_eqb _ _ (differ_apart (rowid a) (rowid r) is have.0 differ.0),
  others_apart a rs is have.2 differ.1,
)

-- and own rowids are at different places
pub distinct_rowids : (rows : List Values) → HaveRowids rows → IsDistinct eqb (map rowid_place rows)
unfolding IsDistinct
distinct_rowids [] have = tt
distinct_rowids (r ∷ rs) have = (others_apart r rs have.0 have.2 have.1, distinct_rowids rs have.2)
