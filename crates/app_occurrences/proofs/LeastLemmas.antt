-- The least name of entries, one entry after the other.
use Rattle.std.proofs.Common.{◌≡◌, ◌≢◌, ◌⊎◌, ◌∙◌, append_assoc, sym, ap, subst, inl, inr, refl, ℕ, List, [], ◌∷◌}
use Rattle.std.proofs.Common.{◌++◌, false, cond, Option, Some, None, Ordering, Less, Equal, Greater, arith}
use Rattle.std.specs.Prelude.{Contains, IfSome}
use Rattle.std.specs.FinMap as map
use Rattle.std.specs.Cmp.{tied_itself}
use Rattle.std.specs.Cmp.Lexicographic.{slice_cmp, nat_list_cmp_total}
use Rattle.std.specs.Ordering.{nat_cmp, is_gt, is_lt, ord_min, ordering_reverse}
use Rattle.std.proofs.lemmas.Cmp.{upto}
use Rattle.std.proofs.lemmas.Bool.{false≢true}
use Rattle.std.proofs.lemmas.List.{append-nil}
use Rattle.std.proofs.lemmas.List.Elements.{Contains-append_cases, Contains-append_left, Contains-append_right}
use Rattle.app_occurrences.specs.Active.{IsLeastName}
use Rattle.app_definition_records.specs.ByName.{AreEntriesOf}
use Rattle.app_definition_records.proofs.ByNameLemmas.{entry_is, entry_there}
use Rattle.app_definition_records.proofs.RisingLemmas.{only, first_of_list}

-- a name is not after another
abbrev pub IsAtMost : List ℕ → List ℕ → Type 0
IsAtMost a b = slice_cmp nat_cmp a b ≢ Greater

not_after : (o : Ordering) → o ≢ Greater → is_gt o ≡ false
not_after Less h = refl
not_after Equal h = refl
not_after Greater h = absurd (h refl)

at_most_of : (o : Ordering) → is_gt o ≡ false → o ≢ Greater
at_most_of o h e = absurd (false≢true (sym h ∙ ap is_gt e))

pub at_most_trans : (a b c : List ℕ) → IsAtMost a b → IsAtMost b c → IsAtMost a c
at_most_trans a b c p q = at_most_of (slice_cmp nat_cmp a c)
    (upto nat_list_cmp_total a b c (not_after (slice_cmp nat_cmp a b) p) (not_after (slice_cmp nat_cmp b c) q))

pub at_most_itself : (a : List ℕ) → IsAtMost a a
at_most_itself a e = let same : slice_cmp nat_cmp a a ≡ Equal = tied_itself nat_list_cmp_total a in let x : ⊥ = cc in x

-- the lesser of two is at most each of them
at_most_answer : (a b : List ℕ) (o : Ordering) → slice_cmp nat_cmp a b ≡ o → is_gt o ≡ false → IsAtMost a b
at_most_answer a b o e h = at_most_of (slice_cmp nat_cmp a b) (ap is_gt e ∙ h)

lesser_is : (a b r : List ℕ) (o : Ordering) → r ≡ ord_min (slice_cmp nat_cmp) a b → slice_cmp nat_cmp b a ≡ o
    → r ≡ cond (is_lt o) b a
lesser_is a b r o e h = e ∙ ap (λ x. cond (is_lt x) b a) h

pub lesser_first : (a b r : List ℕ) → r ≡ ord_min (slice_cmp nat_cmp) a b → IsAtMost r a
lesser_first a b r e = at (slice_cmp nat_cmp b a) refl
  where
    at : (o : Ordering) → slice_cmp nat_cmp b a ≡ o → IsAtMost r a
    at Less h = subst (λ x. IsAtMost x a) (sym (lesser_is a b r Less e h)) (at_most_answer b a Less h refl)
    at Equal h = subst (λ x. IsAtMost x a) (sym (lesser_is a b r Equal e h)) (at_most_itself a)
    at Greater h = subst (λ x. IsAtMost x a) (sym (lesser_is a b r Greater e h)) (at_most_itself a)

pub lesser_second : (a b r : List ℕ) → r ≡ ord_min (slice_cmp nat_cmp) a b → IsAtMost r b
lesser_second a b r e = at (slice_cmp nat_cmp b a) refl
  where
    turned : (o : Ordering) → slice_cmp nat_cmp b a ≡ o → slice_cmp nat_cmp a b ≡ ordering_reverse o
    turned o h = nat_list_cmp_total.antisymm a b ∙ ap ordering_reverse h

    at : (o : Ordering) → slice_cmp nat_cmp b a ≡ o → IsAtMost r b
    at Less h = subst (λ x. IsAtMost x b) (sym (lesser_is a b r Less e h)) (at_most_itself b)
    at Equal h = subst (λ x. IsAtMost x b) (sym (lesser_is a b r Equal e h))
        (at_most_answer a b Equal (turned Equal h) refl)
    at Greater h = subst (λ x. IsAtMost x b) (sym (lesser_is a b r Greater e h))
        (at_most_answer a b Less (turned Greater h) refl)

-- it holds for one of these entries of that name
abbrev pub HoldsAmong : {D : Type 0} → (List ℕ → D → Type 0) → List (List ℕ × D) → List ℕ → Type 0
HoldsAmong {D} Holds es app = (a : D) × Contains es (app, a) × Holds app a

-- the least of the same names is the same
pub least_alike : (P Q : List ℕ → Type 0) (o : Option (List ℕ)) → ((n : List ℕ) → P n → Q n)
    → ((n : List ℕ) → Q n → P n) → IsLeastName P o → IsLeastName Q o
least_alike P Q None there back none = λ app h. none app (back app h)
least_alike P Q (Some k) there back (holds, least) = (there k holds, λ other h. least other (back other h))

-- the least of names and one more
least_with : (P : List ℕ → Type 0) (o : Option (List ℕ)) (app r : List ℕ) → IsLeastName P o
    → (o ≡ Some r) ⊎ (r ≡ app) → IsAtMost r app → IfSome o (λ so_far. IsAtMost r so_far)
    → IsLeastName (λ n. P n ⊎ (n ≡ app)) (Some r)
least_with P None app r none (inl e) below upto = absurd (let x : ⊥ = cc in x)
least_with P None app r none (inr e) below upto =
    (inr e, λ other h. elim h [ inl p ↦ absurd (none other p) | inr same ↦ subst (IsAtMost r) (sym same) below ])
least_with P (Some k) app r (holds, least) one below upto = (
  elim one [ inl e ↦ inl (let same : k ≡ r = cc in subst P same holds) | inr e ↦ inr e ],
  λ other h. elim h [
    | inl p ↦ at_most_trans r k other upto (least other p)
    | inr same ↦ subst (IsAtMost r)
        (sym same) below
  ],
)

-- no entry, no name
pub least_none : {D : Type 0} (Holds : List ℕ → D → Type 0) → IsLeastName (HoldsAmong Holds []) None
least_none Holds = λ app (a, (k, lt, is), h). absurd (omega (arith, lt))

-- the last of the entries
last_entry : {D : Type 0} (es : List (List ℕ × D)) (app : List ℕ) (a : D) (n : List ℕ) (b : D)
    → Contains (es ++ (app, a) ∷ []) (n, b) → Contains es (n, b) ⊎ (◌≡◌ {A = List ℕ × D} (app, a) (n, b))
last_entry es app a n b has = elim (Contains-append_cases es ((app, a) ∷ []) (n, b) has) [
  | inl h ↦ inl h
  | inr h ↦ inr
      (only (app, a) (n, b) h)
]

-- an entry for which it doesn't hold
pub least_skip : {D : Type 0} (Holds : List ℕ → D → Type 0) (es : List (List ℕ × D)) (o : Option (List ℕ))
    (app : List ℕ) (a : D)
    → IsLeastName (HoldsAmong Holds es) o → ¬ (Holds app a) → IsLeastName (HoldsAmong Holds (es ++ (app, a) ∷ [])) o
least_skip {D} Holds es o app a least not =
    least_alike (HoldsAmong Holds es) (HoldsAmong Holds (es ++ (app, a) ∷ [])) o
    (λ n (b, has, h). (b, Contains-append_left es ((app, a) ∷ []) (n, b) has, h))
    (λ n (b, has, h). elim (last_entry es app a n b has) [
      | inl there ↦ (b, there, h)
      | inr same ↦ absurd (not (let P : List ℕ × D → Type 0 = λ e. Holds e.0 e.1 in subst P (sym same) h))
    ])
    least

-- an entry for which it holds
pub least_take : {D : Type 0} (Holds : List ℕ → D → Type 0) (es : List (List ℕ × D)) (o : Option (List ℕ))
    (app : List ℕ) (a : D) (r : List ℕ)
    → IsLeastName (HoldsAmong Holds es) o → Holds app a → (o ≡ Some r) ⊎ (r ≡ app) → IsAtMost r app
    → IfSome o (λ so_far. IsAtMost r so_far)
    → IsLeastName (HoldsAmong Holds (es ++ (app, a) ∷ [])) (Some r)
least_take {D} Holds es o app a r least holds one below upto =
    least_alike (λ n. HoldsAmong Holds es n ⊎ (n ≡ app)) (HoldsAmong Holds (es ++ (app, a) ∷ [])) (Some r)
    (λ n h. elim h [
      | inl (b, has, p) ↦ (b, Contains-append_left es ((app, a) ∷ []) (n, b) has, p)
      | inr same ↦ subst (HoldsAmong Holds (es ++ (app, a) ∷ [])) (sym same)
          (a, Contains-append_right es ((app, a) ∷ []) (app, a) (first_of_list (app, a) []), holds)
    ])
    (λ n (b, has, h). elim (last_entry es app a n b has) [
      | inl there ↦ inl (b, there, h)
      | inr same ↦ inr (sym (ap (λ (e : List ℕ × D). e.0) same))
    ])
    (least_with (HoldsAmong Holds es) o app r least one below upto)

-- the least of all entries is that of the definitions
pub least_all : {D : Type 0} (Holds : List ℕ → D → Type 0) (es : List (List ℕ × D))
    (m : map.FinMap (slice_cmp nat_cmp) D) (o : Option (List ℕ))
    → AreEntriesOf es m → IsLeastName (HoldsAmong Holds es) o
    → IsLeastName (λ app. (a : D) × (map.get m app ≡ Some a) × Holds app a) o
least_all {D} Holds es m o are least =
    least_alike (HoldsAmong Holds es) (λ app. (a : D) × (map.get m app ≡ Some a) × Holds app a) o
    (λ n (a, has, h). (a, entry_is es m n a are has, h))
    (λ n (a, there, h). (a, entry_there es m n a are there, h))
    least

-- the least name of some entries, before those that are left
abbrev pub IsLeastBefore : {D : Type 0} → (List ℕ → D → Type 0) → map.FinMap (slice_cmp nat_cmp) D → List (List ℕ × D)
    → Option (List ℕ) → Type 0
IsLeastBefore {D} Holds m rest o = (done : List (List ℕ × D)) × AreEntriesOf (done ++ rest) m
    × IsLeastName (HoldsAmong Holds done) o

pub before_all : {D : Type 0} (Holds : List ℕ → D → Type 0) (m : map.FinMap (slice_cmp nat_cmp) D)
    (es : List (List ℕ × D)) → AreEntriesOf es m → IsLeastBefore Holds m es None
before_all {D} Holds m es are = ([], are, least_none Holds)

moved : {D : Type 0} (m : map.FinMap (slice_cmp nat_cmp) D) (done it rest : List (List ℕ × D)) (e : List ℕ × D)
    → it ≡ e ∷ rest → AreEntriesOf (done ++ it) m → AreEntriesOf ((done ++ e ∷ []) ++ rest) m
moved m done it rest e steps are = subst (λ l. AreEntriesOf l m)
    (ap (λ l. done ++ l) steps ∙ sym (append_assoc done (e ∷ []) rest)) are

pub before_skip : {D : Type 0} (Holds : List ℕ → D → Type 0) (m : map.FinMap (slice_cmp nat_cmp) D)
    (it rest : List (List ℕ × D)) (o : Option (List ℕ)) (app : List ℕ) (a : D)
    → IsLeastBefore Holds m it o → it ≡ (app, a) ∷ rest → ¬ (Holds app a) → IsLeastBefore Holds m rest o
before_skip Holds m it rest o app a (done, are, least) steps not =
    (done ++ (app, a) ∷ [], moved m done it rest (app, a) steps are, least_skip Holds done o app a least not)

pub before_take : {D : Type 0} (Holds : List ℕ → D → Type 0) (m : map.FinMap (slice_cmp nat_cmp) D)
    (it rest : List (List ℕ × D)) (o : Option (List ℕ)) (app : List ℕ) (a : D) (r : List ℕ)
    → IsLeastBefore Holds m it o → it ≡ (app, a) ∷ rest → Holds app a → (o ≡ Some r) ⊎ (r ≡ app) → IsAtMost r app
    → IfSome o (λ so_far. IsAtMost r so_far)
    → IsLeastBefore Holds m rest (Some r)
before_take Holds m it rest o app a r (done, are, least) steps holds one below upto = (
  done ++ (app, a) ∷ [],
  moved m done it rest (app, a) steps are,
  least_take Holds done o app a r least holds one below upto,
)

pub before_none : {D : Type 0} (Holds : List ℕ → D → Type 0) (m : map.FinMap (slice_cmp nat_cmp) D)
    (it : List (List ℕ × D)) (o : Option (List ℕ))
    → IsLeastBefore Holds m it o → it ≡ [] → IsLeastName (λ app. (a : D) × (map.get m app ≡ Some a) × Holds app a) o
before_none Holds m it o (done, are, least) none =
    least_all Holds done m o (subst (λ l. AreEntriesOf l m) (ap (λ l. done ++ l) none ∙ append-nil done) are) least
