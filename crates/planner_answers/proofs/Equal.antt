-- Values that can be compared, and facts on options, tests and lists that can be decided.
use Rattle.std.proofs.Common.{◌≡◌, ℕ, Bool, true, false, List, [], ◌∷◌, get_or}
use Rattle.std.proofs.Common.{refl, inl, inr, Option, None, Some, IfSome, IsSomeAnd, MatchBool}
use Rattle.std.specs.Prelude.{IsTrue, IsFalse}
use Rattle.std.specs.List.{All, Any, Contains}
use Rattle.std.proofs.lemmas.List.Elements.{All-contains}
use Rattle.std.proofs.lemmas.List.{get_or_default}
use Rattle.planner_answers.proofs.Finite.{Decided, decided_all, decided_any, decided_number, decided_so, finite_list}

pub decided_true : (b : Bool) → Decided (IsTrue b)
decided_true true = inl refl
decided_true false = inr (λ h. cc)

pub decided_false : (b : Bool) → Decided (IsFalse b)
decided_false true = inr (λ h. cc)
decided_false false = inl refl

pub decided_name : (a b : List ℕ) → Decided (a ≡ b)
decided_name [] [] = inl refl
decided_name [] (y ∷ ys) = inr (λ h. cc)
decided_name (x ∷ xs) [] = inr (λ h. cc)
decided_name (x ∷ xs) (y ∷ ys) = elim (decided_number x y) [
  | inl first ↦ elim (decided_name xs ys) [
    | inl rest ↦ inl (let both : x ∷ xs ≡ y ∷ ys = cc in both)
    | inr differ ↦ inr (λ h. let rest : xs ≡ ys = cc in differ rest)
  ]
  | inr differ ↦ inr (λ h. let first : x ≡ y = cc in differ first)
]

pub decided_if_some : {X : Type 0} {P : X → Type 0} → (o : Option X) → ((x : X) → Decided (P x)) → Decided (IfSome o P)
decided_if_some None test = inl tt
decided_if_some (Some x) test = test x

pub decided_some_and : {X : Type 0} {P : X → Type 0} → (o : Option X) → ((x : X) → Decided (P x))
    → Decided (IsSomeAnd o P)
decided_some_and None test = inr (λ h. h)
decided_some_and (Some x) test = test x

pub decided_match : {P Q : Type 0} → (b : Bool) → Decided P → Decided Q → Decided (MatchBool b P Q)
decided_match true p q = p
decided_match false p q = q

pub decided_any_in : {X : Type 0} {P : X → Type 0} → (xs : List X) → ((x : X) → Decided (P x)) → Decided (Any P xs)
decided_any_in {X} {P} xs test =
    decided_so (λ (x, (k, lt, is), p). (k, x, lt, is, p)) (λ (k, x, lt, is, p). (x, (k, lt, is), p))
    (decided_any (finite_list xs) (λ x there. test x))

pub decided_all_in : {X : Type 0} {P : X → Type 0} → (xs : List X) → ((x : X) → Decided (P x)) → Decided (All P xs)
decided_all_in {X} {P} xs test =
    decided_so to (λ h x there. All-contains P xs x h there) (decided_all (finite_list xs) (λ x there. test x))
  where
    to : ((x : X) → Contains xs x → P x) → All P xs
    to each k d lt = each (get_or xs k d) (k, lt, get_or_default xs k (get_or xs k d) d lt)
