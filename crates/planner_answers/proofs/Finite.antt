-- What has a list of all that it holds of, and what can be decided.
use Rattle.std.proofs.Common.{◌≡◌, ◌⊎◌, ℕ, zero, suc, ◌<◌, ◌≤◌, List, [], ◌∷◌, ◌++◌, refl}
use Rattle.std.proofs.Common.{sym, subst, inl, inr, arith}
use Rattle.std.specs.List.{Contains}
use native.Mathlib.Decide.{dec_lt, dec_le, ℕ_discrete}

-- it holds, or it doesn't
abbrev pub Decided : Type 0 → Type 0
Decided A = A ⊎ (A → ⊥)

-- an element of the list, by recursion
abbrev pub Has : {X : Type 0} → List X → X → Type 0
Has [] y = ⊥
Has (x ∷ xs) y = (x ≡ y) ⊎ Has xs y

pub contained : {X : Type 0} (xs : List X) (y : X) → Has xs y → Contains xs y
contained [] y h = absurd h
contained (x ∷ xs) y (inl same) = (zero, omega arith, same)
contained (x ∷ xs) y (inr later) = let (k, lt, is) = contained xs y later in (suc k, omega (arith, lt), is)

pub had : {X : Type 0} (xs : List X) (y : X) → Contains xs y → Has xs y
had [] y (k, lt, is) = absurd (omega (arith, lt))
had (x ∷ xs) y (zero, lt, is) = inl is
had (x ∷ xs) y (suc k, lt, is) = inr (had xs y (k, omega (arith, lt), is))

-- a list has exactly what P holds of
pub record Finite {X : Type 0} (P : X → Type 0) : Type 0 where
  pub items : List X
  pub only : (x : X) → Has items x → P x
  pub all : (x : X) → P x → Has items x

pub decided_not : {A : Type 0} → Decided A → Decided (A → ⊥)
decided_not (inl a) = inr (λ f. f a)
decided_not (inr f) = inl f

pub decided_both : {A B : Type 0} → Decided A → Decided B → Decided (A × B)
decided_both (inl a) (inl b) = inl (a, b)
decided_both (inl a) (inr f) = inr (λ p. f p.1)
decided_both (inr f) b = inr (λ p. f p.0)

pub decided_three : {A B C : Type 0} → Decided A → Decided B → Decided C → Decided (A × B × C)
decided_three (inl a) (inl b) (inl c) = inl (a, b, c)
decided_three (inl a) (inl b) (inr f) = inr (λ p. f p.2)
decided_three (inl a) (inr f) c = inr (λ p. f p.1)
decided_three (inr f) b c = inr (λ p. f p.0)

pub decided_either : {A B : Type 0} → Decided A → Decided B → Decided (A ⊎ B)
decided_either (inl a) b = inl (inl a)
decided_either (inr f) (inl b) = inl (inr b)
decided_either {A} {B} (inr f) (inr g) = inr neither
  where
    neither : A ⊎ B → ⊥
    neither (inl a) = f a
    neither (inr b) = g b

pub decided_so : {A B : Type 0} → (A → B) → (B → A) → Decided A → Decided B
decided_so to back (inl a) = inl (to a)
decided_so to back (inr f) = inr (λ b. f (back b))

pub decided_if : {A B : Type 0} → Decided A → Decided B → Decided (A → B)
decided_if (inr f) b = inl (λ a. absurd (f a))
decided_if (inl a) (inl b) = inl (λ _. b)
decided_if (inl a) (inr g) = inr (λ f. g (f a))

pub finite_so : {X : Type 0} {P Q : X → Type 0} → ((x : X) → P x → Q x) → ((x : X) → Q x → P x) → Finite P → Finite Q
finite_so to back f = record { items = f.items; only = λ x h. to x (f.only x h); all = λ x q. f.all x (back x q) }

pub finite_none : {X : Type 0} {P : X → Type 0} → ((x : X) → P x → ⊥) → Finite P
finite_none never = record { items = []; only = λ x h. absurd h; all = λ x p. absurd (never x p) }

pub finite_one : {X : Type 0} (y : X) → Finite (λ x. y ≡ x)
finite_one {X} y = record { items = y ∷ []; only = only; all = λ x p. inl p }
  where
    only : (x : X) → Has (y ∷ []) x → y ≡ x
    only x (inl same) = same
    only x (inr h) = absurd h

pub finite_list : {X : Type 0} (xs : List X) → Finite (Contains xs)
finite_list xs = record { items = xs; only = contained xs; all = had xs }

pub finite_had : {X : Type 0} (xs : List X) → Finite (Has xs)
finite_had xs = record { items = xs; only = λ x h. h; all = λ x h. h }

-- of two lists

has_left : {X : Type 0} (xs ys : List X) (z : X) → Has xs z → Has (xs ++ ys) z
has_left [] ys z h = absurd h
has_left (x ∷ xs) ys z (inl same) = inl same
has_left (x ∷ xs) ys z (inr h) = inr (has_left xs ys z h)

has_right : {X : Type 0} (xs ys : List X) (z : X) → Has ys z → Has (xs ++ ys) z
has_right [] ys z h = h
has_right (x ∷ xs) ys z h = inr (has_right xs ys z h)

has_cases : {X : Type 0} (xs ys : List X) (z : X) → Has (xs ++ ys) z → Has xs z ⊎ Has ys z
has_cases [] ys z h = inr h
has_cases (x ∷ xs) ys z (inl same) = inl (inl same)
has_cases (x ∷ xs) ys z (inr h) = elim (has_cases xs ys z h) [
  | inl left ↦ inl (inr left)
  | inr right ↦ inr right
]

pub finite_either : {X : Type 0} {P Q : X → Type 0} → Finite P → Finite Q → Finite (λ x. P x ⊎ Q x)
finite_either {X} {P} {Q} f g = record { items = f.items ++ g.items; only = only; all = all }
  where
    only : (x : X) → Has (f.items ++ g.items) x → P x ⊎ Q x
    only x h = elim (has_cases f.items g.items x h) [
      | inl left ↦ inl (f.only x left)
      | inr right ↦ inr (g.only x right)
    ]

    all : (x : X) → P x ⊎ Q x → Has (f.items ++ g.items) x
    all x (inl p) = has_left f.items g.items x (f.all x p)
    all x (inr q) = has_right f.items g.items x (g.all x q)

-- each of a list's elements has a list of its own
over_list : {X Y : Type 0} (R : X → Y → Type 0) (xs : List X) → ((x : X) → Has xs x → Finite (R x))
    → Finite (λ (y : Y). (x : X) × Has xs x × R x y)
over_list R [] each = finite_none (λ y h. h.1)
over_list {X} {Y} R (x ∷ xs) each =
    finite_so to back (finite_either (each x (inl refl)) (over_list R xs (λ z h. each z (inr h))))
  where
    to : (y : Y) → R x y ⊎ ((z : X) × Has xs z × R z y) → (z : X) × Has (x ∷ xs) z × R z y
    to y (inl r) = (x, inl refl, r)
    to y (inr (z, h, r)) = (z, inr h, r)

    back : (y : Y) → ((z : X) × Has (x ∷ xs) z × R z y) → R x y ⊎ ((z : X) × Has xs z × R z y)
    back y (z, inl same, r) = inl (subst (λ w. R w y) (sym same) r)
    back y (z, inr h, r) = inr (z, h, r)

pub finite_over : {X Y : Type 0} {P : X → Type 0} (R : X → Y → Type 0) → Finite P
    → ((x : X) → P x → Finite (R x)) → Finite (λ (y : Y). (x : X) × P x × R x y)
finite_over R f each =
    finite_so (λ y (x, h, r). (x, f.only x h, r)) (λ y (x, p, r). (x, f.all x p, r))
    (over_list R f.items (λ x h. each x (f.only x h)))

-- those of a list of which it holds
kept_if : {X : Type 0} {Q : X → Type 0} (x : X) → Decided (Q x) → Finite (λ y. (x ≡ y) × Q y)
kept_if {X} {Q} x (inl q) =
    finite_so (λ y same. (same, subst Q same q)) (λ y p. p.0) (finite_one x)
kept_if {X} {Q} x (inr never) = finite_none (λ y p. never (subst Q (sym p.0) p.1))

pub finite_if : {X : Type 0} {P Q : X → Type 0} → Finite P → ((x : X) → P x → Decided (Q x)) → Finite (λ x. P x × Q x)
finite_if {X} {P} {Q} f test =
    finite_so (λ y (x, p, both). (subst P both.0 p, both.1)) (λ y (p, q). (y, p, (refl, q)))
    (finite_over (λ x y. (x ≡ y) × Q y) f (λ x p. kept_if {Q = Q} x (test x p)))

-- those that a function makes
pub finite_made : {X Y : Type 0} {P : X → Type 0} (make : X → Y) → Finite P
    → Finite (λ y. (x : X) × P x × (make x ≡ y))
finite_made make f = finite_over (λ x y. make x ≡ y) f (λ x p. finite_one (make x))

-- some, none, all
pub decided_some : {X : Type 0} {P : X → Type 0} → Finite P → Decided ((x : X) × P x)
decided_some {X} {P} f = by_items f.items refl
  where
    by_items : (xs : List X) → f.items ≡ xs → Decided ((x : X) × P x)
    by_items [] is = inr (λ (x, p). subst (λ ys. Has ys x) is (f.all x p))
    by_items (x ∷ xs) is = inl (x, f.only x (subst (λ ys. Has ys x) (sym is) (inl refl)))

pub decided_any : {X : Type 0} {P Q : X → Type 0} → Finite P → ((x : X) → P x → Decided (Q x))
    → Decided ((x : X) × P x × Q x)
decided_any f test =
    decided_so (λ (x, both). (x, both.0, both.1)) (λ (x, p, q). (x, (p, q))) (decided_some (finite_if f test))

-- one of which it doesn't hold, or it holds of all
pub some_or_all : {X : Type 0} {P Q : X → Type 0} → Finite P → ((x : X) → P x → Decided (Q x))
    → ((x : X) × P x × (Q x → ⊥)) ⊎ ((x : X) → P x → Q x)
some_or_all {X} {P} {Q} f test = by_any (decided_any f (λ x p. decided_not (test x p)))
  where
    stable : (x : X) (p : P x) → ((Q x → ⊥) → ⊥) → Q x
    stable x p never = elim (test x p) [
      | inl q ↦ q
      | inr not_q ↦ absurd (never not_q)
    ]

    by_any : Decided ((x : X) × P x × (Q x → ⊥)) → ((x : X) × P x × (Q x → ⊥)) ⊎ ((x : X) → P x → Q x)
    by_any (inl found) = inl found
    by_any (inr none) = inr (λ x p. stable x p (λ not_q. none (x, p, not_q)))

pub decided_all : {X : Type 0} {P Q : X → Type 0} → Finite P → ((x : X) → P x → Decided (Q x))
    → Decided ((x : X) → P x → Q x)
decided_all f test = elim (some_or_all f test) [
  | inl found ↦ inr (λ h. found.2 (h found.0 found.1))
  | inr all ↦ inl all
]

-- numbers

pub decided_lt : (m n : ℕ) → Decided (m < n)
decided_lt m n = elim (dec_lt m n) [
  | yes lt ↦ inl lt
  | no not_lt ↦ inr not_lt
]

pub decided_le : (m n : ℕ) → Decided (m ≤ n)
decided_le m n = elim (dec_le m n) [
  | yes le ↦ inl le
  | no not_le ↦ inr not_le
]

pub decided_number : (m n : ℕ) → Decided (m ≡ n)
decided_number m n = elim (ℕ_discrete m n) [
  | yes same ↦ inl same
  | no differ ↦ inr differ
]

pub finite_below : (n : ℕ) → Finite (λ k. k < n)
finite_below zero = finite_none (λ k lt. absurd (omega arith))
finite_below (suc n) = finite_so to back (finite_either (finite_below n) (finite_one n))
  where
    to : (k : ℕ) → (k < n) ⊎ (n ≡ k) → k < suc n
    to k (inl lt) = omega arith
    to k (inr same) = omega arith

    back : (k : ℕ) → k < suc n → (k < n) ⊎ (n ≡ k)
    back k lt = elim (decided_lt k n) [
      | inl less ↦ inl less
      | inr not_less ↦ inr (omega arith)
    ]

pub finite_from : (m n : ℕ) → Finite (λ k. (k < n) × (m ≤ k))
finite_from m n = finite_if (finite_below n) (λ k lt. decided_le m k)
