-- Rows that can be stored, and rowids that are free.
use Rattle.std.proofs.Common.{◌≡◌, ◌≤◌, ◌<◌, ◌+◌, ◌*◌, ◌^◌, ◌∙◌, ℕ, zero, suc, ℤ, Bool, true, false, List, [], ◌∷◌, length}
use Rattle.std.proofs.Common.{refl, sym, ap, subst, arith, IsTrue}
use Rattle.std.proofs.Common.{filter, fold}
use Rattle.std.specs.Prelude.{pos, negsuc, ◌+ℤ◌, sum_by}
use Rattle.std.specs.List.{AllByRecursion}
use Rattle.std.specs.Float.{NotNan}
use lib.Ieee.{is_nan}
use Rattle.std.proofs.lemmas.List.Elements.{All-from_recursion}
use Rattle.std.proofs.lemmas.List.Sums.{sum_by-le}
use Rattle.std.proofs.lemmas.Bool.Decides.{nat_tests}
use Rattle.std.proofs.lemmas.Int.{ints}
use Rattle.std.proofs.lemmas.Nat.Bits.{bit_at-zero}
use Rattle.sqlite.specs.Order.{Row, column}
use Rattle.sqlite.specs.Tree.{rowid}
use Rattle.sqlite_catalog.proofs.LayoutLemmas.{ascending_filter}
use Rattle.sqlite_keyed.proofs.ListLemmas.{all-filter}
use Rattle.sqlite_rules.proofs.PlaceLemmas.{next_is_free}
use Rattle.sqlite_rules.specs.Edit.{id_in, is_taken, next_rowid}
use Rattle.sqlite_rules.specs.declared.error.Rowids.TheVariants.{Chosen}
use Rattle.sqlite_sql.specs.Ops.{fits_i64}
use Rattle.sqlite_trees.proofs.TreeLemmas.{IsTable-put_row}
use Rattle.sqlite_trees.specs.Tree.{IsTable}
use Rattle.plan_tables_schema.proofs.RowLemmas.{all_placed, put_is_placed}
use Rattle.plan_tables_schema.specs.Rows.{placed}
use Rattle.plan_tables_constraints.specs.Room.{HasRoomAbove, HaveRoom}
use Rattle.sqlite_schema.specs.Rules.{index_reals, table_reals}
use Rattle.sqlite_sql.specs.Catalog.{entry_of}
use Rattle.sqlite_trees.specs.View.{IsStorable, IsStorableRow, is_int}
use Rattle.sqlite_value.specs.declared.value.Value.{Value}
use Rattle.sqlite_value.specs.declared.value.Value.TheVariants.{Null, Int, Text}
use Rattle.sqlite_value.specs.Order.{bytes, number}
use Rattle.plan_tables_schema.specs.Schema.{table, uniques}
use Rattle.plan_tables_schema.specs.declared.tables.Table.{Table}
use Rattle.plan_tables_schema.specs.declared.tables.Table.TheVariants as table_of

-- ---- rows that can be stored

-- a value of at most a million bytes that is no NaN
pub record IsPlain (v : Value) : Type 0 where
  pub number : NotNan (number v)
  pub short : length (bytes v) ≤ 1000000

pub plain_null : IsPlain Null
unfolding is_nan
plain_null = record { number = tt; short = omega arith }

pub plain_natural : (n : ℕ) → IsPlain (Int (pos n))
unfolding is_nan
plain_natural n = record { number = tt; short = omega arith }

pub plain_int : (n : ℤ) → IsPlain (Int n)
unfolding is_nan
plain_int (pos n) = record { number = tt; short = omega arith }
plain_int (negsuc n) = record { number = tt; short = omega arith }

pub plain_text : (t : List ℕ) → length t ≤ 1000000 → IsPlain (Text t)
unfolding is_nan
plain_text t short = record { number = tt; short = short }

-- no column is of the type REAL
no_reals : (t : Table) → table_reals (table t) ≡ 0
no_reals table_of.Meta = refl
no_reals t = refl

no_index_reals : (places : List ℕ) → index_reals 0 places ≡ 0
no_index_reals [] = refl
no_index_reals (p ∷ ps) = omega (arith, bit_at-zero p, no_index_reals ps)

pub all_so : {X : Type 0} (P Q : X → Type 0) → ((x : X) → P x → Q x) → (xs : List X) → AllByRecursion P xs
    → AllByRecursion Q xs
all_so P Q so [] all = tt
all_so P Q so (x ∷ xs) all = (so x all.0, all_so P Q so xs all.1)

plain_storable : (entry : Row) → 0 < length entry → length entry ≤ 900 → AllByRecursion IsPlain entry
    → IsStorable 0 entry
plain_storable entry some few all = record {
  typed = λ c one. absurd (omega (arith, bit_at-zero c, one));
  columns = (some, omega (arith, few));
  numbers = All-from_recursion _ entry (all_so IsPlain _ (λ v is. is.number) entry all);
  short =
      let most : sum_by (λ v. 18 + length (bytes v)) entry ≤ length entry * 1000018 = sum_by-le (λ v. 18 + length (bytes v)) 1000018 entry
      (All-from_recursion _ entry (all_so IsPlain (λ v. 18 + length (bytes v) ≤ 1000018) (λ v is.
      omega (arith, is.short)) entry all)) in
      omega (arith, most, few);
}

pub row_storable : (t : Table) (row : Row) → 1 < length row → length row ≤ 900 → AllByRecursion IsPlain row
    → IsStorableRow (table_reals (table t)) row
row_storable t row some few all =
    (subst (λ n. IsStorable n row) (sym (no_reals t)) (plain_storable row (omega (arith, some)) few all), some)

-- what a row has in a column, or NULL
column_plain : (row : Row) (at : ℕ) → AllByRecursion IsPlain row → IsPlain (column row at)
column_plain [] at all = plain_null
column_plain (v ∷ row) zero all = all.0
column_plain (v ∷ row) (suc at) all = column_plain row at all.1

entry_plain : (places : List ℕ) (row : Row) → AllByRecursion IsPlain row → AllByRecursion IsPlain (entry_of places row)
entry_plain [] row all = (column_plain row 0 all, tt)
entry_plain (p ∷ ps) row all = (column_plain row p all, entry_plain ps row all)

entry_length : (places : List ℕ) (row : Row) → length (entry_of places row) ≡ length places + 1
entry_length [] row = refl
entry_length (p ∷ ps) row = omega (arith, entry_length ps row)

-- the places of a key are few
few_places : (t : Table) → AllByRecursion (λ (places : List ℕ). length places ≤ 3) (uniques t)
few_places table_of.Meta = tt
few_places table_of.Current = tt
few_places table_of.Deletion = tt
few_places table_of.Job = tt
few_places t = (omega arith, tt)

pub entry_storable : (t : Table) (row : Row) → AllByRecursion IsPlain row
    → AllByRecursion (λ places. IsStorable (index_reals (table_reals (table t)) places) (entry_of places row)) (uniques t)
entry_storable t row all = all_so (λ (places : List ℕ). length places ≤ 3) (λ places. IsStorable (index_reals
    (table_reals (table t)) places) (entry_of places row)) (λ places few.
    subst (λ n. IsStorable n (entry_of places row))
    (sym (ap (λ n. index_reals n places) (no_reals t) ∙ no_index_reals places))
    (plain_storable (entry_of places row) (omega (arith, entry_length places row))
    (omega (arith, entry_length places row, few)) (entry_plain places row all))) (uniques t) (few_places t)

-- ---- rowids that are free

abbrev next_of : ℤ → Row → ℤ
next_of last r = id_in (rowid r) +ℤ pos 1

last_so : (P : ℤ → Type 0) (start : ℤ) (rows : List Row) → P start → AllByRecursion (λ r. P (id_in (rowid r) +ℤ pos 1)) rows
    → P (fold next_of start rows)
last_so P start [] is all = is
last_so P start (r ∷ rs) is all = last_so P (next_of start r) rs all.0 all.1

one_more : (id : ℤ) (k : ℕ) → (id +ℤ pos 1) +ℤ pos k ≡ id +ℤ pos (k + 1)
one_more id k = omega (arith, ints)

first_fits : (n k : ℕ) → suc n < 2 ^ 63 → k ≤ n → fits_i64 (pos 1 +ℤ pos k) ≡ true
first_fits n k few le = grind (arith, nat_tests)

above_fits : (n : ℕ) (r : Row) → HasRoomAbove (suc n) r → (k : ℕ) → k ≤ n
    → fits_i64 ((id_in (rowid r) +ℤ pos 1) +ℤ pos k) ≡ true
above_fits n r (id, is, fits) k le = subst (λ v. fits_i64 ((id_in v +ℤ pos 1) +ℤ pos k) ≡ true) (sym is)
    (ap fits_i64 (one_more id k) ∙ fits (k + 1) (omega arith))

module _ (n : ℕ) (rows : List Row) (room : HaveRoom (suc n) rows) (rest : Row) where
  pub next_fits : (k : ℕ) → k ≤ n → fits_i64 (next_rowid rows +ℤ pos k) ≡ true
  next_fits = last_so (λ id. (k : ℕ) → k ≤ n → fits_i64 (id +ℤ pos k) ≡ true) (pos 1) rows
      (λ k le. first_fits n k room.few le)
      (all_so (HasRoomAbove (suc n)) (λ r. (k : ℕ) → k ≤ n → fits_i64 ((id_in (rowid r) +ℤ pos 1) +ℤ pos k) ≡ true)
      (above_fits n) rows room.above)

  pub next_within : fits_i64 (next_rowid rows) ≡ true
  next_within =
      let same : next_rowid rows +ℤ pos 0 ≡ next_rowid rows = omega (arith, ints) in
      subst (λ id. fits_i64 id ≡ true) same (next_fits 0 (omega arith))

  pub next_free : is_taken rows (Int (next_rowid rows) ∷ rest) ≡ false
  next_free = next_is_free Chosen rows rest room.rising
      (all_so (HasRoomAbove (suc n)) (λ r. IsTrue (is_int (rowid r))) (λ r has. subst (λ v. IsTrue (is_int v)) (sym has.1) refl)
      rows room.above)

  pub room_after : HaveRoom n (placed (Int (next_rowid rows) ∷ rest) rows)
  room_after = record {
    rising = subst IsTable (put_is_placed (Int (next_rowid rows) ∷ rest) rows next_free)
        (IsTable-put_row (Int (next_rowid rows) ∷ rest) rows room.rising);
    above = all_placed (HasRoomAbove n) (Int (next_rowid rows) ∷ rest) rows (next_rowid rows, refl, next_fits)
        (all_so (HasRoomAbove (suc n)) (HasRoomAbove n) (λ r has. (has.0, has.1, λ k le. has.2 k (omega arith))) rows room.above);
    few = omega (arith, room.few);
  }

pub room_left : (n : ℕ) (p : Row → Bool) (rows : List Row) → HaveRoom n rows → HaveRoom n (filter p rows)
room_left n p rows room = record {
  rising = ascending_filter _ p rows room.rising;
  above = all-filter (HasRoomAbove n) p rows room.above;
  few = room.few;
}
