-- What the tables show once the rows are put in.
use Rattle.std.proofs.Common.{◌≡◌, ◌∙◌, ◌==◌, ◌&&◌, ℕ, Bool, true, false, not, List, [], ◌∷◌, ◌++◌, append-nil, map, refl, sym, ap, subst}
use Rattle.std.proofs.Common.{Ordering, Less, Equal, Greater, arith}
use Rattle.std.specs.Prelude.{⊤}
use Rattle.std.specs.List.{list_all}
use Rattle.std.specs.List.Sorted.{IsPermutation}
use Rattle.std.specs.Ordering.{match_ordering}
use Rattle.std.proofs.lemmas.Bool.{and_parts, eq-eqb, not-true}
use Rattle.std.proofs.lemmas.Bool.Decides.{nat_tests}
use Rattle.std.proofs.lemmas.List.Elements.{All-cons, All-head, All-nil, All-tail}
use Rattle.std.proofs.lemmas.List.Sorted.{IsPermutation-append_right, IsPermutation-cons, IsPermutation-map, IsPermutation-middle}
use Rattle.std.proofs.lemmas.List.Sorted.{IsPermutation-refl, IsPermutation-sym, IsPermutation-trans}
use Rattle.sqlite.specs.Order.{Row}
use Rattle.sqlite.specs.Rowids.TheVariants.{Chosen}
use Rattle.sqlite.specs.Tree.{rowid}
use Rattle.sqlite_rules.specs.Edit.{with_rowid}
use Rattle.sqlite_value.specs.Order.{value_cmp}
use Rattle.plan_tables_schema.specs.Rows.{Tables, no_rows, placed, shown, stored, with_cells, with_rows}
use Rattle.plan_tables_schema.specs.Schema.{place}
use Rattle.plan_tables_schema.specs.declared.tables.Table.{Table}
use Rattle.plan_migrations_remaking.specs.Remaking.{AreAllFirst, AreRemade, AreWhole, remade_row}
use Rattle.plan_migrations_remaking.specs.Remaking.{tables_in, with_all_put, with_rows_put}
use Rattle.plan_migrations_remaking.specs.Types.{AreFirst, HasTypes, first_types}
use Rattle.plan_migrations_remaking.specs.declared.rows.FirstRows.{FirstRows}
use Rattle.plan_migrations_remaking.proofs.FitLemmas.{remade_shown}

placed_among : (new : Row) (rows : List Row) → IsPermutation (new ∷ rows) (placed new rows)
placed_among new [] = IsPermutation-refl (new ∷ [])
placed_among new (r ∷ rs) = go (value_cmp (rowid r) (rowid new)) (placed_among new rs)
  where
    later : IsPermutation (new ∷ rs) (placed new rs) → IsPermutation (new ∷ r ∷ rs) (r ∷ placed new rs)
    later more = IsPermutation-trans (new ∷ r ∷ rs) (r ∷ new ∷ rs) (r ∷ placed new rs)
        (IsPermutation-sym (r ∷ new ∷ rs) (new ∷ r ∷ rs) (IsPermutation-middle (r ∷ []) new rs))
        (IsPermutation-cons r (new ∷ rs) (placed new rs) more)

    go : (o : Ordering) → IsPermutation (new ∷ rs) (placed new rs)
        → IsPermutation (new ∷ r ∷ rs) (match_ordering o (r ∷ placed new rs) (r ∷ placed new rs) (new ∷ r ∷ rs))
    go Less more = later more
    go Equal more = later more
    go Greater more = IsPermutation-refl (new ∷ r ∷ rs)

same_place : (t : Table) → (place t == place t) ≡ true
same_place t = eq-eqb (place t) (place t) refl

at_itself : (t : Table) (rows : List Row) (all : Tables) → with_rows t rows all t ≡ rows
at_itself t rows all = rw (same_place t) refl

at_other : (t u : Table) (rows : List Row) (all : Tables) → (place u == place t) ≡ false → with_rows t rows all u ≡ all u
at_other t u rows all apart = rw apart refl

-- other tables stay
pub others_stay : (t u : Table) → (place u == place t) ≡ false → (rows : List Row) (all : Tables) → with_rows_put t rows all u ≡ all u
others_stay t u apart [] all = refl
others_stay t u apart (row ∷ rows) all =
    others_stay t u apart rows (with_cells t (remade_row t row) all) ∙ at_other t u _ all apart

one_shown : (t : Table) (row : Row) (all : Tables)
    → shown t (with_rowid Chosen (all t) (stored t (remade_row t row))) ≡ remade_row t row
    → IsPermutation (remade_row t row ∷ map (shown t) (all t)) (map (shown t) (with_cells t (remade_row t row) all t))
one_shown t row all shows =
    let new = with_rowid Chosen (all t) (stored t (remade_row t row)) in
    subst (λ l. IsPermutation (remade_row t row ∷ map (shown t) (all t)) (map (shown t) l))
    (sym (at_itself t (placed new (all t)) all))
    (subst (λ v. IsPermutation (v ∷ map (shown t) (all t)) (map (shown t) (placed new (all t)))) shows
    (IsPermutation-map (shown t) (new ∷ all t) (placed new (all t)) (placed_among new (all t))))

-- the table shows the rows beside those that it showed
rows_shown : (t : Table) (rows : List Row) (all : Tables) → AreFirst t rows
    → IsPermutation (map (remade_row t) rows ++ map (shown t) (all t)) (map (shown t) (with_rows_put t rows all t))
rows_shown t [] all are = IsPermutation-refl (map (shown t) (all t))
rows_shown t (row ∷ rows) all are =
    let next = with_cells t (remade_row t row) all in
    let one = one_shown t row all (remade_shown t row (all t) (All-head (HasTypes (first_types t)) row rows are)) in
    let rest = map (remade_row t) rows in
    IsPermutation-trans (remade_row t row ∷ (rest ++ map (shown t) (all t))) (rest ++ map (shown t) (next t))
    (map (shown t) (with_rows_put t rows next t))
    (IsPermutation-trans (remade_row t row ∷ (rest ++ map (shown t) (all t)))
    (rest ++ remade_row t row ∷ map (shown t) (all t)) (rest ++ map (shown t) (next t))
    (IsPermutation-sym (rest ++ remade_row t row ∷ map (shown t) (all t)) (remade_row t row ∷ (rest ++ map (shown t) (all t)))
    (IsPermutation-middle rest (remade_row t row) (map (shown t) (all t))))
    (IsPermutation-append_right rest (remade_row t row ∷ map (shown t) (all t)) (map (shown t) (next t)) one))
    (rows_shown t rows next (All-tail (HasTypes (first_types t)) row rows are))

-- of one of them
abbrev pub IsFirstRead : FirstRows → Type 0
IsFirstRead read = AreFirst read.table read.rows.items

abbrev pub Shows : Tables → FirstRows → Type 0
Shows all read = IsPermutation (map (remade_row read.table) read.rows.items) (map (shown read.table) (all read.table))

-- no table comes twice
abbrev pub is_apart : Table → Table → Bool
is_apart t u = not (place u == place t)

abbrev pub are_apart : List Table → Bool
are_apart [] = true
are_apart (t ∷ ts) = list_all (is_apart t) ts && are_apart ts

abbrev pub AreEmpty : List FirstRows → Tables → Type 0
AreEmpty [] all = ⊤
AreEmpty (read ∷ reads) all = (all read.table ≡ []) × AreEmpty reads all

still_empty : (t : Table) (rows : List Row) (reads : List FirstRows) (all : Tables)
    → list_all (is_apart t) (tables_in reads) ≡ true → AreEmpty reads all → AreEmpty reads (with_rows_put t rows all)
still_empty t rows [] all apart none = tt
still_empty t rows (read ∷ reads) all apart none =
    let both = and_parts _ _ apart in (
      others_stay t read.table (not-true _ both.0) rows all ∙ none.0,
      still_empty t rows reads all both.1 none.1,
    )

-- what is put into tables after it leaves the table as it is
pub left_alone : (t : Table) (reads : List FirstRows) (all : Tables) → list_all (is_apart t) (tables_in reads) ≡ true
    → with_all_put reads all t ≡ all t
left_alone t [] all apart = refl
left_alone t (read ∷ reads) all apart =
    let both = and_parts _ _ apart in
    left_alone t reads (with_rows_put read.table read.rows.items all) both.1
    ∙ others_stay read.table t (flipped (place read.table) (place t) (not-true _ both.0)) read.rows.items all
  where
    flipped : (m n : ℕ) → (m == n) ≡ false → (n == m) ≡ false
    flipped m n e = go (n == m) refl
      where
        go : (b : Bool) → (n == m) ≡ b → b ≡ false
        go false h = refl
        go true h = absurd (let k : ⊥ = grind (arith, nat_tests, e, h) in k)

pub all_shown : (reads : List FirstRows) (all : Tables) → are_apart (tables_in reads) ≡ true → AreAllFirst reads
    → AreEmpty reads all → AreRemade reads (with_all_put reads all)
all_shown [] all apart are none = All-nil (Shows all)
all_shown (read ∷ reads) all apart are none =
    let t = read.table in
    let next = with_rows_put t read.rows.items all in
    let both = and_parts _ _ apart in
    let here : map (shown t) (all t) ≡ [] = ap (map (shown t)) none.0 in
    let rows = map (remade_row t) read.rows.items in
    let one : IsPermutation rows (map (shown t) (next t)) = subst (λ l. IsPermutation l (map (shown t) (next t)))
    (ap (λ l. rows ++ l) here ∙ append-nil rows) (rows_shown t read.rows.items all (All-head IsFirstRead read reads are)) in
    All-cons (Shows (with_all_put reads next)) read reads
    (subst (λ l. IsPermutation rows (map (shown t) l)) (sym (left_alone t reads next both.0)) one)
    (all_shown reads next both.1 (All-tail IsFirstRead read reads are) (still_empty t read.rows.items reads all both.0 none.1))

empty_at_first : (reads : List FirstRows) → AreEmpty reads no_rows
empty_at_first [] = tt
empty_at_first (read ∷ reads) = (refl, empty_at_first reads)

-- the tables that have these rows show them
pub remade_all : (reads : List FirstRows) (all : Tables) → AreWhole reads → AreAllFirst reads
    → all ≡ with_all_put reads no_rows → AreRemade reads all
remade_all reads all whole are is = subst (AreRemade reads) (sym is)
    (all_shown reads no_rows (ap are_apart whole) are (empty_at_first reads))
