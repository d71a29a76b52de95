-- Rows that a table takes, by the description of the table: what is asked of a row follows from its cells.
use Rattle.std.proofs.Common.{◌≡◌, ◌≢◌, ◌≤◌, ◌<◌, ◌+◌, ◌^◌, ◌∙◌, ◌||◌, ℕ, zero, suc, ℤ, Bool, true, false, cond}
use Rattle.std.proofs.Common.{List, [], ◌∷◌, length, map, drop, Option, Some, None, is_eq, not, refl, sym, ap, subst}
use Rattle.std.proofs.Common.{arith}
use Rattle.std.specs.Prelude.{if◌then◌else◌, option_map, pos, ⊤}
use Rattle.std.specs.List.{AllByRecursion, list_all}
use Rattle.std.specs.FinMap.{int_cmp-IsAntisymmetric}
use Rattle.std.proofs.lemmas.Bool.{and_from, and_parts, false_from_ne_true, false≢true}
use Rattle.std.proofs.lemmas.Bool.Decides.{nat_tests}
use Rattle.sqlite.specs.Kind.TheVariants.{Integer, Text as Texts}
use Rattle.sqlite.specs.Order.{Row as Values, column}
use Rattle.sqlite.specs.Rowids.TheVariants.{Chosen}
use Rattle.sqlite.specs.Tree.{rowid}
use Rattle.sqlite_keyed.proofs.ListLemmas.{any_from_none}
use Rattle.sqlite_rules.specs.Edit.{id_in, is_taken, next_rowid, with_rowid}
use Rattle.sqlite_schema.specs.Names.{is_key}
use Rattle.sqlite_schema.specs.Rules.{agree, are_present, are_typed, is_of, passes_checks, suits, table_reals}
use Rattle.sqlite_sql.specs.Ops.{fits_i64, is_false, is_null}
use Rattle.sqlite_sql.specs.Term.{Term, eval, eval_all}
use Rattle.sqlite_trees.specs.View.{IsStorableRow, is_int}
use Rattle.sqlite_value.specs.Keys.{plain}
use Rattle.sqlite_value.specs.Order.{value_cmp}
use Rattle.sqlite_value.proofs.OrderLemmas.{value_cmp-Int}
use Rattle.sqlite_schema.specs.declared.schema.Column.{Column}
use Rattle.sqlite_value.specs.declared.value.Value.{Value}
use Rattle.sqlite_value.specs.declared.value.Value.TheVariants.{Int, Null, Text}
use Rattle.plan_store_lists.proofs.KeyLemmas.{contains_first, contains_later}
use Rattle.plan_tables_schema.specs.Cells.{column_names}
use Rattle.plan_tables_schema.specs.Form.{Col, Key, column_of, given_from, has_rowid, may_have, needs, with_key}
use Rattle.plan_tables_schema.specs.Form.{with_rowid_term}
use Rattle.plan_tables_schema.specs.Form.Key.{Front, FrontOf, OneRow, Rowid, RowidAndPair}
use Rattle.plan_tables_schema.specs.Form.{checks_of, from_one, uniques_of}
use Rattle.plan_tables_schema.specs.Forms.{form}
use Rattle.plan_tables_schema.specs.Rows.{AreOfKinds, Tables, shown}
use Rattle.plan_tables_schema.specs.Schema.{columns, key, table, uniques}
use Rattle.plan_tables_schema.specs.Accepted.{HasNone, HasParents, AcceptsRow, new_row}
use Rattle.plan_tables_schema.specs.declared.tables.Table.{Table}
use Rattle.plan_tables_schema.specs.declared.tables.Table.TheVariants as table_of
use Rattle.plan_tables_content.specs.Facts.{flag, is_work, natural, or_null}
use Rattle.work_calendars.specs.declared.statuses.DayStatus.{DayStatus}
use Rattle.work_calendars.specs.declared.statuses.DayStatus.TheVariants.{Free, Work}
use Rattle.plan_tables_constraints.specs.Room.{HaveRoom}
use Rattle.plan_tables_constraints.proofs.Held.{Shows, agree_cell, equal_from, same_cell}
use Rattle.plan_tables_constraints.proofs.RowFits.{IsPlain, all_so, entry_storable, next_free, next_within, plain_int}
use Rattle.plan_tables_constraints.proofs.RowFits.{plain_natural, plain_null}
use Rattle.plan_tables_constraints.proofs.RowFits.{plain_text, row_storable}

-- ---- cells

-- a column may have the value: it is of its kind, NULL only if the column allows it, and at most a million bytes long
pub record IsCell (c : Col) (v : Value) : Type 0 where
  pub typed : is_of c.kind v ≡ true
  pub present : (not (not c.may_lack) || not (is_null v)) ≡ true
  pub plain : IsPlain v

-- each column may have its value, and there are as many
abbrev pub AreCells : List Col → Values → Type 0
AreCells [] [] = ⊤
AreCells [] (v ∷ vs) = ⊥
AreCells (c ∷ cs) [] = ⊥
AreCells (c ∷ cs) (v ∷ vs) = IsCell c v × AreCells cs vs

pub number_cell : {name : List ℕ} (n : ℤ) → IsCell (needs name Integer) (Int n)
number_cell n = record { typed = refl; present = refl; plain = plain_int n }

pub text_cell : {name : List ℕ} (t : List ℕ) → length t ≤ 1000000 → IsCell (needs name Texts) (Text t)
text_cell t short = record { typed = refl; present = refl; plain = plain_text t short }

pub flag_cell : {name : List ℕ} (b : Bool) → IsCell (needs name Integer) (flag b)
flag_cell true = number_cell (pos 1)
flag_cell false = number_cell (pos 0)

pub work_cell : {name : List ℕ} (s : DayStatus) → IsCell (needs name Integer) (is_work s)
work_cell Work = number_cell (pos 1)
work_cell Free = number_cell (pos 0)

pub number_or_null : {name : List ℕ} {X : Type 0} (number_of : X → ℕ) (o : Option X)
    → IsCell (may_have name Integer) (or_null (option_map (λ (x : X). natural (number_of x)) o))
number_or_null number_of None = record { typed = refl; present = refl; plain = plain_null }
number_or_null number_of (Some x) = record { typed = refl; present = refl; plain = plain_natural (number_of x) }

pub natural_or_null : {name : List ℕ} (o : Option ℕ) → IsCell (may_have name Integer) (or_null (option_map natural o))
natural_or_null o = number_or_null (λ (n : ℕ). n) o

pub text_or_null : {name : List ℕ} (o : Option (List ℕ)) → IsPlain (or_null (option_map Text o))
    → IsCell (may_have name Texts) (or_null (option_map Text o))
text_or_null None is = record { typed = refl; present = refl; plain = is }
text_or_null (Some t) is = record { typed = refl; present = refl; plain = is }

-- ---- what follows for all columns

plain_cells : (cs : List Col) (vs : Values) → AreCells cs vs → AllByRecursion IsPlain vs
plain_cells [] [] are = tt
plain_cells [] (v ∷ vs) are = absurd are
plain_cells (c ∷ cs) [] are = absurd are
plain_cells (c ∷ cs) (v ∷ vs) are = (are.0.plain, plain_cells cs vs are.1)

as_many : (cs : List Col) (vs : Values) → AreCells cs vs → length vs ≡ length cs
as_many [] [] are = refl
as_many [] (v ∷ vs) are = absurd are
as_many (c ∷ cs) [] are = absurd are
as_many (c ∷ cs) (v ∷ vs) are = ap suc (as_many cs vs are.1)

-- no column from this place on stands for the rowid
abbrev IsPast : Option ℕ → ℕ → Type 0
IsPast k from = (at : ℕ) → from ≤ at → is_key k at ≡ false

past_first : IsPast (Some 0) 1
past_first at le = grind (arith, nat_tests)

past_none : IsPast None 0
past_none at le = refl

typed_cells : (k : Option ℕ) (from : ℕ) → IsPast k from → (cs : List Col) (at : ℕ) → from ≤ at → (vs : Values)
    → AreCells cs vs → are_typed k at (map column_of cs) vs ≡ true
typed_cells k from past [] at le [] are = refl
typed_cells k from past [] at le (v ∷ vs) are = absurd are
typed_cells k from past (c ∷ cs) at le [] are = absurd are
typed_cells k from past (c ∷ cs) at le (v ∷ vs) are = and_from _ _
    (ap (λ b. if b then is_null v else suits (column_of c) v) (past at le) ∙ are.0.typed)
    (typed_cells k from past cs (at + 1) (omega (arith, le)) vs are.1)

or_first : (a b c : Bool) → (b || c) ≡ true → (a || b || c) ≡ true
or_first true b c h = refl
or_first false b c h = h

present_cells : (k : Option ℕ) (cs : List Col) (at : ℕ) (row vs : Values) → AreCells cs vs
    → ((i : ℕ) → column row (at + 1 + i) ≡ column vs i) → are_present k at (map column_of cs) row ≡ true
present_cells k [] at row vs are same = refl
present_cells k (c ∷ cs) at row [] are same = absurd are
present_cells k (c ∷ cs) at row (v ∷ vs) are same =
    let here : at + 1 ≡ at + 1 + 0 = omega arith in
    let first : column row (at + 1) ≡ v = ap (column row) here ∙ same 0 in
    and_from _ _ (or_first (is_key k at) _ _
    (subst (λ x. (not (not c.may_lack) || not (is_null x)) ≡ true) (sym first) are.0.present))
    (present_cells k cs (at + 1) row vs are.1 (λ i.
    let next : at + 1 + 1 + i ≡ at + 1 + suc i = omega arith in
    ap (column row) next ∙ same (suc i)))

-- the values are stored as they are given
given_cells : (cs : List Col) (n : ℕ) (given vs : Values) → AreCells cs vs
    → ((i : ℕ) → column given (n + i) ≡ column vs i) → eval_all (given_from n cs) (given ∷ []) ≡ vs
given_cells [] n given [] are same = refl
given_cells [] n given (v ∷ vs) are same = absurd are
given_cells (c ∷ cs) n given [] are same = absurd are
given_cells (c ∷ cs) n given (v ∷ vs) are same =
    let here : n ≡ n + 0 = omega arith in
    let first : column given n ≡ v = ap (column given) here ∙ same 0 in
    let rest : eval_all (given_from (n + 1) cs) (given ∷ []) ≡ vs = given_cells cs (n + 1) given vs are.1 (λ i.
    let next : n + 1 + i ≡ n + suc i = omega arith in
    ap (column given) next ∙ same (suc i)) in
    λ i. first i ∷ rest i

-- and so they are beside NULL, where the first is the rowid
kept_cells : (cs : List Col) (v : Value) (vs : Values) → AreCells cs (v ∷ vs)
    → eval_all (with_rowid_term true (given_from 0 cs)) ((v ∷ vs) ∷ []) ≡ v ∷ Null ∷ vs
kept_cells [] v vs are = absurd are
kept_cells (c ∷ cs) v vs are =
    let rest : eval_all (given_from 1 cs) ((v ∷ vs) ∷ []) ≡ vs = given_cells cs 1 (v ∷ vs) vs are.1 (λ i.
    let next : 1 + i ≡ suc i = omega arith in
    ap (column (v ∷ vs)) next) in
    λ i. v ∷ Null ∷ rest i

typed_kept : (cs : List Col) (v : Value) (vs : Values) → AreCells cs (v ∷ vs)
    → are_typed (Some 0) 0 (with_key true (map column_of cs)) (Null ∷ vs) ≡ true
typed_kept [] v vs are = absurd are
typed_kept (c ∷ cs) v vs are = typed_cells (Some 0) 1 past_first cs 1 (omega arith) vs are.1

present_kept : (cs : List Col) (v : Value) (vs : Values) → AreCells cs (v ∷ vs)
    → are_present (Some 0) 0 (with_key true (map column_of cs)) (v ∷ Null ∷ vs) ≡ true
present_kept [] v vs are = absurd are
present_kept (c ∷ cs) v vs are = present_cells (Some 0) cs 1 (v ∷ Null ∷ vs) vs are.1 (λ i.
    let next : 1 + 1 + i ≡ suc (suc i) = omega arith in
    ap (column (v ∷ Null ∷ vs)) next)

no_key : (cs : List Column) → with_key false cs ≡ cs
no_key [] = refl
no_key (c ∷ cs) = refl

-- ---- keys

-- the cells are the same from the place on
abbrev pub SameFrom : ℕ → ℕ → Values → Values → Type 0
SameFrom zero i v w = ⊤
SameFrom (suc n) i v w = (same_cell (column v i) (column w i) ≡ true) × SameFrom n (i + 1) v w

abbrev pub keyed_by : Key → ℕ
keyed_by (Front n) = n
keyed_by (FrontOf n k parent) = n
keyed_by k = 0

-- both have the same primary key
abbrev pub HaveSameKey : Table → Values → Values → Type 0
HaveSameKey t v w = SameFrom (keyed_by (form t).key) 0 v w

pub agree_from : (n i : ℕ) (a b : Values) → agree plain (from_one n i) a (from_one n i) b ≡ true → SameFrom n i a b
agree_from zero i a b h = tt
agree_from (suc n) i a b h =
    let k = and_parts _ _ (sym (agree_cell i (from_one n (i + 1)) a b) ∙ h) in
    (k.0, agree_from n (i + 1) a b k.1)

-- ---- the tables

widths : (t : Table) → (0 < length (form t).columns) × (length (form t).columns ≤ 10)
widths table_of.Meta = (omega arith, omega arith)
widths t = (omega arith, omega arith)

name_counts : (t : Table) → length (column_names t) ≡ length (form t).columns
name_counts table_of.Meta = refl
name_counts t = refl

-- the first columns of a row stand after its rowid
same_shown : (t : Table) (r v : Values) (id : ℤ) → SameFrom (keyed_by (form t).key) 1 r (Int id ∷ v)
    → HaveSameKey t (shown t r) v
same_shown table_of.Meta r v id same = same
same_shown t r v id same = same

own_index : (k : Key) → has_rowid k ≡ false → uniques_of k ≡ from_one (keyed_by k) 1 ∷ []
own_index Rowid front = absurd (false≢true (sym front))
own_index OneRow front = absurd (false≢true (sym front))
own_index RowidAndPair front = absurd (false≢true (sym front))
own_index (Front n) front = refl
own_index (FrontOf n k parent) front = refl

unchecked : (k : Key) → has_rowid k ≡ false → checks_of k ≡ []
unchecked OneRow front = absurd (false≢true (sym front))
unchecked k front = refl

-- what holds of all that is shown holds of what each row shows
pub each_shown : (P : Values → Type 0) (t : Table) (rows : List Values) → ((v : Values) → Shows t rows v → P v)
    → AllByRecursion (λ r. P (shown t r)) rows
each_shown P t [] so = tt
each_shown P t (r ∷ rs) so = (
  so (shown t r) (contains_first (shown t r) (map (shown t) rs)),
  each_shown P t rs (λ v has. so v (contains_later (shown t r) v (map (shown t) rs) has)),
)

-- ---- rowids that are given

same_number : (m n : ℕ) → is_eq (value_cmp (natural m) (natural n)) ≡ true → m ≡ n
same_number m n e =
    let same : pos m ≡ pos n = int_cmp-IsAntisymmetric (pos m) (pos n) (sym (value_cmp-Int (pos m) (pos n))
    ∙ equal_from _ e) in cc

-- the row has a number as its rowid, and not this one
abbrev pub IsBeside : ℕ → Values → Type 0
IsBeside n r = (m : ℕ) × (rowid r ≡ natural m) × (m ≢ n)

pub number_free : (n : ℕ) (rest : Values) (rows : List Values) → AllByRecursion (IsBeside n) rows
    → is_taken rows (natural n ∷ rest) ≡ false
number_free n rest rows all = any_from_none (λ r. is_eq (value_cmp (rowid r) (natural n))) rows
    (all_so (IsBeside n) (λ r. is_eq (value_cmp (rowid r) (natural n)) ≡ false)
    (λ r (m, is, other). false_from_ne_true _ (λ e. other (same_number m n
    (subst (λ v. is_eq (value_cmp v (natural n)) ≡ true) is e)))) rows all)

pub number_within : (n : ℕ) → n < 2 ^ 63 → fits_i64 (pos n) ≡ true
number_within n small = grind (arith, nat_tests)

-- ---- whole rows

-- the row that is stored of the values
module _ (t : Table) (v : Values) (all : Tables) (id : ℤ) (rest : Values) (is : new_row t v all ≡ Int id ∷ rest)
    (cells : AreCells (form t).columns v) (kinds : AreOfKinds t v) (more : length rest ≤ length v + 1)
    (some : 0 < length rest) (plains : AllByRecursion IsPlain rest) where
  abbrev row : Values
  row = Int id ∷ rest

  row_taken : are_typed (key t) 0 (columns t) rest ≡ true → are_present (key t) 0 (columns t) row ≡ true
      → passes_checks (table t) row ≡ true → fits_i64 id ≡ true → is_taken (all t) row ≡ false
      → AllByRecursion (HasNone (all t) row) (uniques t) → HasParents t row all → AcceptsRow t v all
  row_taken typed present checked within fresh unique parents =
      let wide : length v ≡ length (form t).columns = as_many (form t).columns v cells in
      let few : length (form t).columns ≤ 10 = (widths t).1 in record {
        whole = wide ∙ sym (name_counts t);
        kinds = kinds;
        typed = subst (λ r. are_typed (key t) 0 (columns t) (drop 1 r) ≡ true) (sym is) typed;
        present = subst (λ r. are_present (key t) 0 (columns t) r ≡ true) (sym is) present;
        checked = subst (λ r. passes_checks (table t) r ≡ true) (sym is) checked;
        storable = subst (IsStorableRow (table_reals (table t))) (sym is)
            (row_storable t row (omega (arith, some)) (omega (arith, more, wide, few)) (plain_int id, plains));
        entries = entry_storable t (new_row t v all) (subst (AllByRecursion IsPlain) (sym is) (plain_int id, plains));
        numbered = subst (λ r. is_int (rowid r) ≡ true) (sym is) refl;
        within = subst (λ r. fits_i64 (id_in (rowid r)) ≡ true) (sym is) within;
        fresh = subst (λ r. is_taken (all t) r ≡ false) (sym is) fresh;
        unique = subst (λ r. AllByRecursion (HasNone (all t) r) (uniques t)) (sym is) unique;
        parents = subst (λ r. HasParents t r all) (sym is) parents;
      }

-- a table that numbers its rows itself, and that has room, takes a row that none of those shown has the key of
module _ (t : Table) (front : has_rowid (form t).key ≡ false) (all : Tables) (n : ℕ) (room : HaveRoom (suc n) (all t))
    (v : Values) (cells : AreCells (form t).columns v) where
  abbrev next : ℤ
  next = next_rowid (all t)

  pub numbered_so : new_row t v all ≡ Int next ∷ v
  numbered_so = ap (λ b. with_rowid Chosen (all t)
      (eval_all (with_rowid_term b (given_from 0 (form t).columns)) (v ∷ []))) front
      ∙ ap (λ vs. Int next ∷ vs) (given_cells (form t).columns 0 v v cells (λ i.
      let same : 0 + i ≡ i = omega arith in
      ap (column v) same))

  pub next_taken : AreOfKinds t v → ((w : Values) → Shows t (all t) w → HaveSameKey t w v → ⊥)
      → HasParents t (Int next ∷ v) all → AcceptsRow t v all
  next_taken kinds others parents = row_taken t v all next v numbered_so cells kinds (omega arith)
      (omega (arith, as_many (form t).columns v cells, (widths t).0)) (plain_cells (form t).columns v cells)
      (ap (λ b. are_typed (cond b (Some 0) None) 0 (with_key b (map column_of (form t).columns)) v) front
      ∙ ap (λ cs. are_typed None 0 cs v) (no_key (map column_of (form t).columns))
      ∙ typed_cells None 0 past_none (form t).columns 0 (omega arith) v cells)
      (ap (λ b. are_present (cond b (Some 0) None) 0 (with_key b (map column_of (form t).columns)) (Int next ∷ v)) front
      ∙ ap (λ cs. are_present None 0 cs (Int next ∷ v)) (no_key (map column_of (form t).columns))
      ∙ present_cells None (form t).columns 0 (Int next ∷ v) v cells (λ i.
      let same : 0 + 1 + i ≡ suc i = omega arith in
      ap (column (Int next ∷ v)) same))
      (ap (list_all (λ (x : Term). not (is_false (eval x ([] ∷ (Int next ∷ v) ∷ []))))) (unchecked (form t).key front))
      (next_within n (all t) room v) (next_free n (all t) room v)
      (subst (AllByRecursion (HasNone (all t) (Int next ∷ v))) (sym (own_index (form t).key front)) (apart, tt)) parents
    where
      apart : HasNone (all t) (Int next ∷ v) (from_one (keyed_by (form t).key) 1)
      apart = all_so (λ r. HaveSameKey t (shown t r) v → ⊥)
          (λ r. agree plain (from_one (keyed_by (form t).key) 1) r (from_one (keyed_by (form t).key) 1) (Int next ∷ v)
          ≡ false)
          (λ r other. false_from_ne_true _ (λ h. other (same_shown t r v next
          (agree_from (keyed_by (form t).key) 1 r (Int next ∷ v) h))))
          (all t) (each_shown (λ w. HaveSameKey t w v → ⊥) t (all t) others)

-- a table of numbered rows takes one whose number is another than those of its rows
module _ (t : Table) (own : has_rowid (form t).key ≡ true) (all : Tables) (n : ℕ) (vs : Values)
    (cells : AreCells (form t).columns (natural n ∷ vs)) where
  kept_so : new_row t (natural n ∷ vs) all ≡ natural n ∷ Null ∷ vs
  kept_so = ap (λ b. with_rowid Chosen (all t) (eval_all (with_rowid_term b (given_from 0 (form t).columns))
      ((natural n ∷ vs) ∷ []))) own
      ∙ ap (with_rowid Chosen (all t)) (kept_cells (form t).columns (natural n) vs cells)

  pub given_taken : n < 2 ^ 63 → AreOfKinds t (natural n ∷ vs)
      → passes_checks (table t) (natural n ∷ Null ∷ vs) ≡ true → AllByRecursion (IsBeside n) (all t)
      → AllByRecursion (HasNone (all t) (natural n ∷ Null ∷ vs)) (uniques t)
      → HasParents t (natural n ∷ Null ∷ vs) all → AcceptsRow t (natural n ∷ vs) all
  given_taken small kinds checked others unique parents =
      let plains : AllByRecursion IsPlain (natural n ∷ vs) = plain_cells (form t).columns (natural n ∷ vs) cells in
      row_taken t (natural n ∷ vs) all (pos n) (Null ∷ vs) kept_so cells kinds (omega arith) (omega arith)
      (plain_null, plains.1)
      (ap (λ b. are_typed (cond b (Some 0) None) 0 (with_key b (map column_of (form t).columns)) (Null ∷ vs)) own
      ∙ typed_kept (form t).columns (natural n) vs cells)
      (ap (λ b. are_present (cond b (Some 0) None) 0 (with_key b (map column_of (form t).columns))
      (natural n ∷ Null ∷ vs)) own
      ∙ present_kept (form t).columns (natural n) vs cells)
      checked (number_within n small) (number_free n (Null ∷ vs) (all t) others) unique parents
