-- The values of rows fit the text of INSERT.
use Rattle.std.proofs.Common.{◌≡◌, zero, suc, Bool, true, false, not, T, cond, is_nan, List, [], ◌∷◌, drop}
use Rattle.std.proofs.Common.{Some, None, is_some, refl}
use Rattle.std.specs.List.{AllByRecursion, list_all}
use Rattle.std.specs.Float.{NotNan}
use Rattle.std.proofs.lemmas.Bool.{and_from}
use Rattle.sqlite.specs.Order.{Row}
use Rattle.sqlite.specs.Term.{Term, lit, col, op1, op2, case, eval_all}
use Rattle.sqlite.specs.declared.types.Value.{Value}
use Rattle.sqlite.specs.declared.types.Value.TheVariants.{Null, Int, Real, Text, Blob}
use Rattle.sqlite_sql.specs.Ops.{is_null}
use Rattle.sqlite_typing.specs.Types.{class_of, term_class}
use Rattle.sqlite_typing.specs.Types as types
use Rattle.sqlite_value.specs.Order.{column, number}
use Rattle.plan_tables_schema.specs.Rows.{stored}
use Rattle.plan_tables_schema.specs.declared.tables.Table.{Table}

-- no value of a row is a NaN, so each can be bound

abbrev pub is_given : Term → Bool
is_given (lit v) = true
is_given (col zero at) = true
is_given _ = false

abbrev pub IsBindable : Value → Type 0
IsBindable v = is_some (class_of v) ≡ true

bindable : (v : Value) → NotNan (number v) → IsBindable v
bindable Null h = refl
bindable (Int n) h = refl
bindable (Real x) h = go (is_nan x) h
  where
    go : (b : Bool) → T (not b) → is_some (cond b None (Some types.float)) ≡ true
    go true h = absurd h
    go false h = refl
bindable (Text t) h = refl
bindable (Blob b) h = refl

null_is_bindable : (v : Value) → is_null v ≡ true → IsBindable v
null_is_bindable Null h = refl
null_is_bindable (Int n) h = cc
null_is_bindable (Real x) h = cc
null_is_bindable (Text t) h = cc
null_is_bindable (Blob b) h = cc

all_bindable : (values : Row) → AllByRecursion (λ v. NotNan (number v)) values → AllByRecursion IsBindable values
all_bindable [] all = tt
all_bindable (v ∷ vs) all = (bindable v all.0, all_bindable vs all.1)

pub accepted : (terms : List Term) (cells : Row) → list_all is_given terms ≡ true
    → AllByRecursion IsBindable (eval_all terms (cells ∷ []))
    → list_all (λ t. is_some (term_class cells [] t)) terms ≡ true
accepted [] cells given all = refl
accepted (lit v ∷ ts) cells given all = and_from _ _ all.0 (accepted ts cells given all.1)
accepted (col zero at ∷ ts) cells given all = and_from _ _ all.0 (accepted ts cells given all.1)
accepted (col (suc n) at ∷ ts) cells given all = absurd (let e = given in cc)
accepted (op1 op a ∷ ts) cells given all = absurd (let e = given in cc)
accepted (op2 op a b ∷ ts) cells given all = absurd (let e = given in cc)
accepted (case a b c ∷ ts) cells given all = absurd (let e = given in cc)

-- the row as it is given, where it is so with the rowid that is chosen
as_given : (id : Value) (row : Row) → AllByRecursion IsBindable (cond (is_null (column row 0)) (id ∷ drop 1 row) row)
    → AllByRecursion IsBindable row
as_given id [] all = tt
as_given id (v ∷ vs) all = go (is_null v) refl all
  where
    go : (b : Bool) → is_null v ≡ b → AllByRecursion IsBindable (cond b (id ∷ vs) (v ∷ vs))
        → AllByRecursion IsBindable (v ∷ vs)
    go true null all = (null_is_bindable v null, all.1)
    go false null all = all

-- the values of a row that can be stored can be bound
pub can_be_bound : (t : Table) (cells : Row) (id : Value) → AllByRecursion (λ v. NotNan (number v))
    (cond (is_null (column (stored t cells) 0)) (id ∷ drop 1 (stored t cells)) (stored t cells))
    → AllByRecursion IsBindable (stored t cells)
can_be_bound t cells id all = as_given id (stored t cells) (all_bindable _ all)
