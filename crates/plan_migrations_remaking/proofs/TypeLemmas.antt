-- Values of the types of their columns stay as they are where they are stored.
use Rattle.std.proofs.Common.{◌≡◌, ◌+◌, ◌==◌, ◌||◌, ◌∙◌, ℕ, zero, suc, ℤ, Bool, true, false, cond, List, [], ◌∷◌, length}
use Rattle.std.proofs.Common.{map, Option, IsTrue, refl, ap, arith}
use Rattle.std.specs.Prelude.{⊤}
use Rattle.sqlite.specs.Cast.{cast}
use Rattle.sqlite.specs.Kind.{Kind}
use Rattle.sqlite.specs.Kind.TheVariants as kind
use Rattle.sqlite.specs.Ops.{unary}
use Rattle.sqlite.specs.Order.{Row, column}
use Rattle.sqlite.specs.Values.{bound_value}
use Rattle.sqlite.specs.declared.types.Value.{Value}
use Rattle.sqlite.specs.declared.types.Value.TheVariants.{Null, Int, Real, Text, Blob}
use Rattle.sqlite_rules.specs.Cast.{cast_all}
use Rattle.sqlite_schema.specs.declared.schema.Column.{Column}
use Rattle.plan_migrations_remaking.specs.Types.{HasTypes, has_type, is_at, letter, letters}

-- the same, letter by letter
abbrev pub Typed : List ℕ → Row → Type 0
Typed [] [] = ⊤
Typed [] (v ∷ vs) = ⊥
Typed (l ∷ ls) [] = ⊥
Typed (l ∷ ls) (v ∷ vs) = IsTrue (has_type l v) × Typed ls vs

pub typed_from : (ls : List ℕ) (vs : Row) → HasTypes ls vs → Typed ls vs
typed_from [] [] h = tt
typed_from [] (v ∷ vs) h = absurd (let e = h.0 in omega (arith, e))
typed_from (l ∷ ls) [] h = absurd (let e = h.0 in omega (arith, e))
typed_from (l ∷ ls) (v ∷ vs) h = (
  h.1 0 (omega arith),
  typed_from ls vs (let e = h.0 in omega (arith, e), λ at low. h.1 (suc at) (omega (arith, low))),
)

either : (b : Bool) (x : Value) → cond b x x ≡ x
either true x = refl
either false x = refl

pub cast-Int : (n : ℤ) → cast kind.Integer (Int n) ≡ Int n
unfolding unary
cast-Int n = either _ (Int n)

pub cast-Null : cast kind.Integer Null ≡ Null
unfolding unary
cast-Null = either _ Null

-- no letter is that of a REAL
abbrev is_real : ℕ → Bool
is_real l = (l == 82) || (l == 114)

abbrev pub NoReals : List ℕ → Type 0
NoReals [] = ⊤
NoReals (l ∷ ls) = (is_real l ≡ false) × NoReals ls

never : (b : Bool) → b ≡ false → IsTrue b → ⊥
never true e h = cc
never false e h = let k : false ≡ true = h in cc

integer : (b : Bool) (v : Value) → IsTrue (has_type (cond b 73 105) v) → cast kind.Integer v ≡ v
integer true Null h = cast-Null
integer false Null h = cast-Null
integer b (Int n) h = cast-Int n
integer true (Real x) h = absurd (never false refl h)
integer false (Real x) h = absurd (never false refl h)
integer true (Text t) h = absurd (never false refl h)
integer false (Text t) h = absurd (never false refl h)
integer true (Blob t) h = absurd (never false refl h)
integer false (Blob t) h = absurd (never false refl h)

text : (b : Bool) (v : Value) → IsTrue (has_type (cond b 84 116) v) → cast kind.Text v ≡ v
text b Null h = refl
text true (Int n) h = absurd (never false refl h)
text false (Int n) h = absurd (never false refl h)
text true (Real x) h = absurd (never false refl h)
text false (Real x) h = absurd (never false refl h)
text b (Text t) h = refl
text true (Blob t) h = absurd (never false refl h)
text false (Blob t) h = absurd (never false refl h)

one_kept : (k : Kind) (b : Bool) (v : Value) → is_real (cond b (letter k) (letter k + 32)) ≡ false
    → IsTrue (has_type (cond b (letter k) (letter k + 32)) v) → cast k v ≡ v
one_kept kind.Integer b v none h = integer b v h
one_kept kind.Text b v none h = text b v h
one_kept kind.Blob b v none h = refl
one_kept kind.Any b v none h = refl
one_kept kind.Real true v none h = absurd (never true none refl)
one_kept kind.Real false v none h = absurd (never true none refl)

pub cast_kept : (key : Option ℕ) (at : ℕ) (cs : List Column) (vs : Row) → NoReals (letters key at cs)
    → Typed (letters key at cs) vs → cast_all cs vs ≡ vs
cast_kept key at [] vs none h = refl
cast_kept key at (c ∷ cs) [] none h = refl
cast_kept key at (c ∷ cs) (v ∷ vs) none h =
    let first = one_kept c.kind (c.not_null || is_at key at) v none.0 h.0 in
    let rest = cast_kept key (at + 1) cs vs none.1 h.1 in
    λ i. first i ∷ rest i

bound_one : (l : ℕ) (v : Value) → is_real l ≡ false → IsTrue (has_type l v) → bound_value v ≡ v
bound_one l Null none h = refl
bound_one l (Int n) none h = refl
bound_one l (Real x) none h = absurd (never _ none h)
bound_one l (Text t) none h = refl
bound_one l (Blob b) none h = refl

pub bound_kept : (ls : List ℕ) (vs : Row) → NoReals ls → Typed ls vs → map bound_value vs ≡ vs
bound_kept [] [] none h = refl
bound_kept [] (v ∷ vs) none h = absurd h
bound_kept (l ∷ ls) [] none h = refl
bound_kept (l ∷ ls) (v ∷ vs) none h =
    let first = bound_one l v none.0 h.0 in
    let rest = bound_kept ls vs none.1 h.1 in
    λ i. first i ∷ rest i

-- an INTEGER that has to be there
pub integer_is : (v : Value) → IsTrue (has_type 73 v) → (n : ℤ) × (v ≡ Int n)
integer_is Null h = absurd (never false refl h)
integer_is (Int n) h = (n, refl)
integer_is (Real x) h = absurd (never false refl h)
integer_is (Text t) h = absurd (never false refl h)
integer_is (Blob b) h = absurd (never false refl h)

-- the values from a place on, so many
abbrev pub taken : ℕ → ℕ → Row → Row
taken zero at vs = []
taken (suc n) at vs = column vs at ∷ taken n (suc at) vs

later : (n at : ℕ) (v : Value) (vs : Row) → taken n (suc at) (v ∷ vs) ≡ taken n at vs
later zero at v vs = refl
later (suc n) at v vs = ap (λ l. column vs at ∷ l) (later n (suc at) v vs)

-- they are all, where there are so many
pub taken_all : (n : ℕ) (vs : Row) → length vs ≡ n → taken n 0 vs ≡ vs
taken_all zero [] len = refl
taken_all zero (v ∷ vs) len = absurd (omega (arith, len))
taken_all (suc n) [] len = absurd (omega (arith, len))
taken_all (suc n) (v ∷ vs) len = ap (λ l. v ∷ l) (later n 0 v vs ∙ taken_all n vs (omega (arith, len)))
