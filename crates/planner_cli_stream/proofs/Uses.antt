-- Facts of the grammar's uses.
use Rattle.std.proofs.Common.{◌≡◌, ◌∙◌, ◌&&◌, ◌||◌, Bool, cond, true, false, not, refl, sym, ap, ap₂, List, [], ◌∷◌}
use Rattle.std.proofs.Common.{◌++◌, Option, Some, None, append_assoc, true≢false, inl, inr, ◌⊎◌}
use Rattle.std.specs.Option.{option_and_then}
use Rattle.std.specs.Str.{bytes_eq}
use Rattle.std.proofs.lemmas.Slice.Eq.{bytes_eq-Decides}
use Rattle.planner_cli_stream.specs.Grammar.{Layout, Text, Use, accepted, before_rest, is_complete, is_distinct, is_used}

pub bool_cases : (b : Bool) → (b ≡ true) ⊎ (b ≡ false)
bool_cases true = inl refl
bool_cases false = inr refl

pub when_true : {X : Type 0} (b : Bool) (x y : X) → b ≡ true → cond b x y ≡ x
when_true b x y e = ap (λ (a : Bool). cond a x y) e

pub when_false : {X : Type 0} (b : Bool) (x y : X) → b ≡ false → cond b x y ≡ y
when_false b x y e = ap (λ (a : Bool). cond a x y) e

pub same_text : (a b : Text) → bytes_eq a b ≡ true → a ≡ b
same_text a b e = (bytes_eq-Decides a b).0 e

pub eq_self : (a : Text) → bytes_eq a a ≡ true
eq_self a = (bytes_eq-Decides a a).1 refl

pub eq_flip : (a b : Text) → bytes_eq a b ≡ false → bytes_eq b a ≡ false
eq_flip a b e = go (bool_cases (bytes_eq b a))
  where
    go : (bytes_eq b a ≡ true) ⊎ (bytes_eq b a ≡ false) → bytes_eq b a ≡ false
    go (inl h) = absurd (true≢false (sym (ap (λ (x : Text). bytes_eq a x) (same_text b a h) ∙ eq_self a) ∙ e))
    go (inr h) = h

pub neither : (a b : Bool) → (a || b) ≡ false → (a ≡ false) × (b ≡ false)
neither true b e = absurd (true≢false e)
neither false b e = (refl, e)

is_used-end : (us : List Use) (x name value : Text) → is_used x us ≡ false → bytes_eq name x ≡ false
    → is_used x (us ++ (name, value) ∷ []) ≡ false
is_used-end [] x name value e h = rw h refl
is_used-end (u ∷ us) x name value e h =
    let q = neither (bytes_eq u.0 x) (is_used x us) e in
    ap₂ (λ a b. a || b) q.0 (is_used-end us x name value q.1 h)

pub both : (a b : Bool) → (a && b) ≡ true → (a ≡ true) × (b ≡ true)
both true b e = (refl, e)
both false b e = absurd (true≢false (sym e))

not_true : (b : Bool) → not b ≡ true → b ≡ false
not_true true e = absurd (true≢false (sym e))
not_true false e = refl

and_true : (a b : Bool) → a ≡ true → b ≡ true → (a && b) ≡ true
and_true a b e h = ap₂ (λ x y. x && y) e h

-- an unused name may be used next
pub distinct_more : (us : List Use) (name value : Text) → is_distinct us ≡ true → is_used name us ≡ false
    → is_distinct (us ++ (name, value) ∷ []) ≡ true
distinct_more [] name value d e = refl
distinct_more (u ∷ us) name value d e =
    let p = both (not (is_used u.0 us)) (is_distinct us) d in
    let q : (bytes_eq u.0 name ≡ false) × (is_used name us ≡ false) = neither (bytes_eq u.0 name) (is_used name us) e in
    and_true _ _ (ap not (is_used-end us u.0 name value (not_true _ p.0) (eq_flip u.0 name q.0)))
    (distinct_more us name value p.1 q.1)

pub is_used-middle : (us : List Use) (name value : Text) (more : List Use)
    → is_used name (us ++ (name, value) ∷ more) ≡ true
is_used-middle [] name value more = ap (λ b. b || is_used name more) (eq_self name)
is_used-middle (u ∷ us) name value more =
    ap (λ b. bytes_eq u.0 name || b) (is_used-middle us name value more) ∙ or_true (bytes_eq u.0 name)
  where
    or_true : (b : Bool) → (b || true) ≡ true
    or_true true = refl
    or_true false = refl

-- a name that is used may not be used again
pub distinct_fails : (us : List Use) (name value : Text) (more : List Use) → is_used name us ≡ true
    → is_distinct (us ++ (name, value) ∷ more) ≡ false
distinct_fails [] name value more e = absurd (true≢false (sym e))
distinct_fails (u ∷ us) name value more e =
    first_or_rest (bool_cases (bytes_eq u.0 name)) (λ h. distinct_fails us name value more h)
  where
    and_false : (b : Bool) → (b && false) ≡ false
    and_false true = refl
    and_false false = refl

    first_or_rest : (bytes_eq u.0 name ≡ true) ⊎ (bytes_eq u.0 name ≡ false)
        → (is_used name us ≡ true → is_distinct (us ++ (name, value) ∷ more) ≡ false)
        → (not (is_used u.0 (us ++ (name, value) ∷ more)) && is_distinct (us ++ (name, value) ∷ more)) ≡ false
    first_or_rest (inl t) rest =
        let is : u.0 ≡ name = same_text u.0 name t in
        ap (λ b. not b && is_distinct (us ++ (name, value) ∷ more))
        (ap (λ x. is_used x (us ++ (name, value) ∷ more)) is ∙ is_used-middle us name value more)
    first_or_rest (inr f) rest =
        ap (λ b. not (is_used u.0 (us ++ (name, value) ∷ more)) && b)
        (rest (sym (ap (λ b. b || is_used name us) f) ∙ e))
        ∙ and_false _

-- ---- a use put in front

pub refused_use : (l : Layout) (us : List Use) (name value : Text) (r : Option (List Use)) → is_used name us ≡ true
    → option_and_then (λ more. accepted l (us ++ more)) (before_rest name value r) ≡ None
refused_use l us name value None e = refl
refused_use l us name value (Some more) e =
    ap (λ b. cond (b && is_complete l (us ++ (name, value) ∷ more)) (Some (us ++ (name, value) ∷ more)) None)
    (distinct_fails us name value more e)

pub taken_use : (l : Layout) (us : List Use) (name value : Text) (r : Option (List Use))
    → option_and_then (λ more. accepted l (us ++ more)) (before_rest name value r)
    ≡ option_and_then (λ more. accepted l ((us ++ (name, value) ∷ []) ++ more)) r
taken_use l us name value None = refl
taken_use l us name value (Some more) = ap (accepted l) (sym (append_assoc us ((name, value) ∷ []) more))
