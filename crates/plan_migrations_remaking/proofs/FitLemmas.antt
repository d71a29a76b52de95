-- Rows of schema 1 are taken by the tables of schema 2, and shown by them as they are.
use Rattle.std.proofs.Common.{◌≡◌, ◌<◌, ◌∙◌, ℕ, zero, suc, ℤ, List, [], ◌∷◌, ◌++◌, drop, length, map, IsTrue, refl, sym, ap, subst, arith}
use Rattle.std.specs.List.{slice_index_or}
use Rattle.sqlite.specs.Order.{Row, column}
use Rattle.sqlite.specs.Rowids.TheVariants.{Chosen}
use Rattle.sqlite.specs.Values.{bound_value}
use Rattle.sqlite.specs.declared.types.Value.{Value}
use Rattle.sqlite.specs.declared.types.Value.TheVariants.{Null, Int}
use Rattle.sqlite_rules.specs.Cast.{cast_all}
use Rattle.sqlite_rules.specs.Edit.{with_rowid}
use Rattle.plan_tables_schema.specs.Cells.{column_names}
use Rattle.plan_tables_schema.specs.Rows.{AreOfKinds, shown, stored}
use Rattle.plan_tables_schema.specs.Schema.{columns, key}
use Rattle.plan_tables_schema.specs.declared.tables.Table.{Table}
use Rattle.plan_tables_schema.specs.declared.tables.Table.TheVariants.{Meta}
use Rattle.plan_tables_schema.specs.declared.tables.Table.TheVariants.{Predecessor, LinkInForce}
use Rattle.plan_tables_schema.specs.declared.tables.Table.TheVariants.{LongTerm, Current, History, Deletion}
use Rattle.plan_tables_schema.specs.declared.tables.Table.TheVariants.{Job}
use Rattle.plan_migrations_remaking.specs.Remaking.{remade_row}
use Rattle.plan_migrations_remaking.specs.Types.{HasTypes, first_types, has_type, types}
use Rattle.plan_migrations_remaking.proofs.TypeLemmas.{NoReals, bound_kept, cast-Null, cast_kept, integer_is, taken, taken_all}
use Rattle.plan_migrations_remaking.proofs.TypeLemmas.{typed_from}

-- how many columns it has
abbrev size : Table → ℕ
size t = length (column_names t)

no_reals : (t : Table) → NoReals (types t)
no_reals Meta = search []
no_reals t = search []

sized : (t : Table) (cells : Row) → HasTypes (types t) cells → length cells ≡ size t
sized Meta cells h = h.0
sized t cells h = h.0

as_they_are : (t : Table) (cells : Row) → HasTypes (types t) cells
    → cast_all (columns t) (taken (size t) 0 cells) ≡ taken (size t) 0 cells
as_they_are t cells h = subst (λ l. cast_all (columns t) l ≡ l) (sym (taken_all (size t) cells (sized t cells h)))
    (cast_kept (key t) 0 (columns t) cells (no_reals t) (typed_from (types t) cells h))

of_kinds : (t : Table) (cells : Row) → cast_all (columns t) (taken (size t) 0 cells) ≡ taken (size t) 0 cells
    → AreOfKinds t cells
of_kinds Meta cells e = λ i. column (e i) 0 ∷ cast-Null i ∷ drop 1 (e i)
of_kinds LongTerm cells e = λ i. column (e i) 0 ∷ cast-Null i ∷ drop 1 (e i)
of_kinds Current cells e = λ i. column (e i) 0 ∷ cast-Null i ∷ drop 1 (e i)
of_kinds History cells e = λ i. column (e i) 0 ∷ cast-Null i ∷ drop 1 (e i)
of_kinds Deletion cells e = λ i. column (e i) 0 ∷ cast-Null i ∷ drop 1 (e i)
of_kinds Job cells e = λ i. column (e i) 0 ∷ cast-Null i ∷ drop 1 (e i)
of_kinds t cells e = λ i. cast-Null i ∷ e i

-- a row that has a rowid keeps it
kept_id : (rows : List Row) (id : Value) (rest : Row) (n : ℤ) → id ≡ Int n → with_rowid Chosen rows (id ∷ rest) ≡ id ∷ rest
kept_id rows id rest n is = subst (λ v. with_rowid Chosen rows (v ∷ rest) ≡ v ∷ rest) (sym is) refl

shown_kept : (t : Table) (rows : List Row) (id : Value) (rest : Row) → IsTrue (has_type 73 id)
    → shown t (with_rowid Chosen rows (id ∷ rest)) ≡ shown t (id ∷ rest)
shown_kept t rows id rest typed = let it = integer_is id typed in ap (shown t) (kept_id rows id rest it.0 it.1)

shown_taken : (t : Table) (cells : Row) (rows : List Row) → HasTypes (types t) cells
    → shown t (with_rowid Chosen rows (stored t cells)) ≡ taken (size t) 0 cells
shown_taken Meta cells rows h = shown_kept Meta rows (column cells 0) (drop 1 (stored Meta cells)) (h.1 0 (omega arith))
shown_taken LongTerm cells rows h = shown_kept LongTerm rows (column cells 0) (drop 1 (stored LongTerm cells)) (h.1 0 (omega arith))
shown_taken Current cells rows h = shown_kept Current rows (column cells 0) (drop 1 (stored Current cells)) (h.1 0 (omega arith))
shown_taken History cells rows h = shown_kept History rows (column cells 0) (drop 1 (stored History cells)) (h.1 0 (omega arith))
shown_taken Deletion cells rows h = shown_kept Deletion rows (column cells 0) (drop 1 (stored Deletion cells)) (h.1 0 (omega arith))
shown_taken Job cells rows h = shown_kept Job rows (column cells 0) (drop 1 (stored Job cells)) (h.1 0 (omega arith))
shown_taken t cells rows h = refl

-- ---- the row that stands for one of schema 1

two_typed : (cells : Row) → HasTypes (84 ∷ 84 ∷ []) cells → HasTypes (84 ∷ 84 ∷ 105 ∷ []) (cells ++ Null ∷ [])
two_typed [] h = absurd (let e = h.0 in omega (arith, e))
two_typed (a ∷ []) h = absurd (let e = h.0 in omega (arith, e))
two_typed (a ∷ b ∷ []) h = (refl, go)
  where
    go : (at : ℕ) → at < 3 → IsTrue (has_type (slice_index_or (84 ∷ 84 ∷ 105 ∷ []) at 0) (column (a ∷ b ∷ Null ∷ []) at))
    go zero low = h.1 0 (omega arith)
    go (suc zero) low = h.1 1 (omega arith)
    go (suc (suc zero)) low = refl
    go (suc (suc (suc n))) low = absurd (omega (arith, low))
two_typed (a ∷ b ∷ c ∷ rest) h = absurd (let e = h.0 in omega (arith, e))

meta_typed : (cells : Row) → HasTypes (types Meta) cells → HasTypes (types Meta) (remade_row Meta cells)
meta_typed [] h = h
meta_typed (a ∷ []) h = h
meta_typed (a ∷ b ∷ rest) h = (h.0, go)
  where
    go : (at : ℕ) → at < 9 → IsTrue (has_type (slice_index_or (types Meta) at 0) (column (remade_row Meta (a ∷ b ∷ rest)) at))
    go zero low = h.1 0 low
    go (suc zero) low = refl
    go (suc (suc n)) low = h.1 (suc (suc n)) low

pub remade_typed : (t : Table) (cells : Row) → HasTypes (first_types t) cells → HasTypes (types t) (remade_row t cells)
remade_typed Meta cells h = meta_typed cells h
remade_typed Predecessor cells h = two_typed cells h
remade_typed LinkInForce cells h = two_typed cells h
remade_typed t cells h = h

pub remade_of_kinds : (t : Table) (cells : Row) → HasTypes (first_types t) cells → AreOfKinds t (remade_row t cells)
remade_of_kinds t cells h =
    of_kinds t (remade_row t cells) (as_they_are t (remade_row t cells) (remade_typed t cells h))

pub remade_bound : (t : Table) (cells : Row) → HasTypes (first_types t) cells
    → map bound_value (remade_row t cells) ≡ remade_row t cells
remade_bound t cells h =
    bound_kept (types t) (remade_row t cells) (no_reals t) (typed_from (types t) (remade_row t cells) (remade_typed t cells h))

pub remade_shown : (t : Table) (cells : Row) (rows : List Row) → HasTypes (first_types t) cells
    → shown t (with_rowid Chosen rows (stored t (remade_row t cells))) ≡ remade_row t cells
remade_shown t cells rows h =
    let typed = remade_typed t cells h in
    shown_taken t (remade_row t cells) rows typed ∙ taken_all (size t) (remade_row t cells) (sized t (remade_row t cells) typed)

-- it has a value for each column
pub remade_whole : (t : Table) (cells : Row) → HasTypes (first_types t) cells
    → length (remade_row t cells) ≡ length (column_names t)
remade_whole t cells h = sized t (remade_row t cells) (remade_typed t cells h)
