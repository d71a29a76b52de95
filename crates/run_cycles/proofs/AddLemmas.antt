-- Lists of days that grow.
use Rattle.std.proofs.Common.{◌≡◌, ℕ, ◌+◌, ◌<◌, ◌≤◌, ◌⊎◌, ◌↔◌, ℤ, pos, negsuc, List, [], ◌∷◌, ◌++◌, length, get_or}
use Rattle.std.proofs.Common.{take, inl, inr, ⊎_elim, sym, subst, ◌∙◌, to_z, of_z, arith}
use Rattle.std.specs.Prelude.{All, Any, Contains, OnOk, Result, Ok, Err}
use Rattle.std.proofs.lemmas.Int.{to_z-of_z}
use Rattle.std.proofs.lemmas.List.{take_more, take_all}
use Rattle.std.proofs.lemmas.List.Elements.{Contains-append_left, Contains-push, Contains-push_cases}
use mir.Val.{SFits}
use mir.Syntax.{w16}
use Rattle.work_calendars.specs.CountedIndex.{CountedStatuses}
use Rattle.run_cycles.specs.Offset.{Offset, IsOffset, offset_of}
use Rattle.run_cycles.specs.Searches.{AddsDays, AsksAtMost, IsInWindow}

offset_fits : (z : ℤ) → IsOffset z → SFits w16 z
offset_fits (pos n) h = record { sfits = omega (arith, h.1) }
offset_fits (negsuc m) h = record { sfits = omega (arith, h.1) }

-- an offset as the program reads it
pub read : (xs : List ℤ) (i : ℕ) → All IsOffset xs → i < length xs →
    get_or xs i (pos 0) ≡ to_z w16 (of_z w16 (get_or xs i (pos 0)))
read xs i sound in' = sym (to_z-of_z w16 (get_or xs i (pos 0))
    (offset_fits (get_or xs i (pos 0)) (sound i (pos 0) in')))

-- nothing is added
pub adds_none : (P : ℕ → Type 0) (xs : List ℕ) → ((d : ℕ) → ¬ (P d)) → AddsDays P xs xs
adds_none P xs none d = ((λ h. inl h), λ s. ⊎_elim (λ h. h) (λ p. absurd (none d p)) s)

-- first these and then those
pub adds_both : (P Q R : ℕ → Type 0) (old mid new : List ℕ) →
    ((d : ℕ) → R d ↔ (P d ⊎ Q d)) → AddsDays P old mid → AddsDays Q mid new → AddsDays R old new
adds_both P Q R old mid new says first then d = (
  (λ h. ⊎_elim (λ m. ⊎_elim (λ o. inl o) (λ p. inr ((says d).1 (inl p))) ((first d).0 m))
      (λ q. inr ((says d).1 (inr q))) ((then d).0 h)),
  λ s. ⊎_elim
      (λ o. (then d).1 (inl ((first d).1 (inl o))))
      (λ r. ⊎_elim (λ p. (then d).1 (inl ((first d).1 (inr p)))) (λ q. (then d).1 (inr q)) ((says d).0 r))
      s,
)

-- what is added said in other words
pub adds_same : (P Q : ℕ → Type 0) (old new : List ℕ) → ((d : ℕ) → P d ↔ Q d) → AddsDays P old new → AddsDays Q old new
adds_same P Q old new says adds d = (
  (λ h. ⊎_elim (λ o. inl o) (λ p. inr ((says d).0 p)) ((adds d).0 h)),
  λ s. (adds d).1 (⊎_elim (λ o. inl o) (λ q. inr ((says d).1 q)) s),
)

-- an element that has P
any_of : {X : Type 0} (P : X → Type 0) (xs : List X) (x : X) → Contains xs x → P x → Any P xs
any_of P xs x h p = (h.0, x, h.1, h.2, p)

module _ (P : ℤ → Type 0) (xs : List ℤ) (n : ℕ) (k : ℤ) (in' : n < length xs) (at : get_or xs n (pos 0) ≡ k) where
  more : take (n + 1) xs ≡ take n xs ++ k ∷ []
  more = take_more xs n (pos 0) in' ∙ (let f : ℤ → List ℤ = λ y. take n xs ++ y ∷ [] in λ i. f (at i))

  -- one of the first n + 1 has P: one of the first n, or the next
  pub any_more : Any P (take (n + 1) xs) ↔ (Any P (take n xs) ⊎ P k)
  any_more = (
    (λ h.
        let Q : List ℤ → Type 0 = λ l. Contains l h.1 in
        ⊎_elim (λ a. inl (any_of P (take n xs) h.1 a h.4)) (λ e. inr (subst P (sym e) h.4))
        (Contains-push_cases (take n xs) k h.1 (subst Q more (h.0, h.2, h.3)))),
    λ s.
        let Q : List ℤ → Type 0 = λ l. Any P l in
        subst Q (sym more) (⊎_elim (λ a. any_of P (take n xs ++ k ∷ []) a.1
        (Contains-append_left (take n xs) (k ∷ []) a.1 (a.0, a.2, a.3)) a.4)
        (λ p. any_of P (take n xs ++ k ∷ []) k (Contains-push (take n xs) k) p) s),
  )

pub any_all : (P : ℤ → Type 0) (xs : List ℤ) (n : ℕ) → length xs ≤ n → Any P (take n xs) ↔ Any P xs
any_all P xs n whole =
    let Q : List ℤ → Type 0 = λ l. Any P l in
    let e : take n xs ≡ xs = take_all n xs whole in
    (subst Q e, subst Q (sym e))

-- one offset more
pub window_more : (low high : ℕ) (P : Offset → ℕ → Type 0) (offsets : List ℤ) (n : ℕ) (k : ℤ) →
    n < length offsets → get_or offsets n (pos 0) ≡ k → (old mid new : List ℕ) →
    AddsDays (IsInWindow low high P (take n offsets)) old mid →
    AddsDays (λ d. (low ≤ d) × (d < high) × P (offset_of k) d) mid new →
    AddsDays (IsInWindow low high P (take (n + 1) offsets)) old new
window_more low high P offsets n k in' at old mid new first then =
    adds_both (IsInWindow low high P (take n offsets)) (λ d. (low ≤ d) ×
    (d < high) × P (offset_of k) d) (IsInWindow low high P (take (n + 1) offsets)) old mid new
    (λ d. (
      (λ h. ⊎_elim (λ a. inl (h.0, h.1, a)) (λ p. inr (
        h.0,
        h.1,
        p,
      )) ((any_more (λ j. P (offset_of j) d) offsets n k in' at).0 h.2)),
      λ s. ⊎_elim
          (λ a. (a.0, a.1, (any_more (λ j. P (offset_of j) d) offsets n k in' at).1 (inl a.2)))
          (λ p. (p.0, p.1, (any_more (λ j. P (offset_of j) d) offsets n k in' at).1 (inr p.2)))
          s,
    ))
    first then

-- all offsets
pub window_all : (low high : ℕ) (P : Offset → ℕ → Type 0) (offsets : List ℤ) (n : ℕ) →
    length offsets ≤ n → (old new : List ℕ) → AddsDays (IsInWindow low high P (take n offsets)) old new →
    AddsDays (IsInWindow low high P offsets) old new
window_all low high P offsets n whole old new =
    adds_same (IsInWindow low high P (take n offsets)) (IsInWindow low high P offsets) old new
    (λ d. (
      (λ h. (h.0, h.1, (any_all (λ j. P (offset_of j) d) offsets n whole).0 h.2)),
      λ h. (h.0, h.1, (any_all (λ j. P (offset_of j) d) offsets n whole).1 h.2),
    ))

-- the same days said in other words
pub window_same : (low high : ℕ) (P Q : Offset → ℕ → Type 0) (offsets : List ℤ) (old new : List ℕ) →
    ((k : Offset) (d : ℕ) → P k d ↔ Q k d) → AddsDays (IsInWindow low high P offsets) old new →
    AddsDays (IsInWindow low high Q offsets) old new
window_same low high P Q offsets old new says =
    adds_same (IsInWindow low high P offsets) (IsInWindow low high Q offsets) old new
    (λ d. (
      (λ h. (h.0, h.1, (h.2.0, h.2.1, h.2.2, h.2.3, (says (offset_of h.2.1) d).0 h.2.4))),
      λ h. (h.0, h.1, (h.2.0, h.2.1, h.2.2, h.2.3, (says (offset_of h.2.1) d).1 h.2.4)),
    ))

-- no offsets, no days
pub window_empty : (low high : ℕ) (P : Offset → ℕ → Type 0) (offsets : List ℤ) →
    length offsets ≡ 0 → (old : List ℕ) → AddsDays (IsInWindow low high P offsets) old old
window_empty low high P offsets none old =
    adds_none (IsInWindow low high P offsets) old (λ d h. omega (arith, none, h.2.2))

pub asks_both : (a b c : ℕ) (s t u : CountedStatuses) → a + b ≤ c →
    AsksAtMost a s t → AsksAtMost b t u → AsksAtMost c s u
asks_both a b c s t u enough first then =
    let low : t.asked ≤ s.asked + a = first.1 in
    let high : u.asked ≤ t.asked + b = then.1 in
    (then.0 ∙ first.0, omega arith)

pub on_ok : {A E : Type 0} (P Q : Type 0) (r : Result A E) → (P → Q) → OnOk r P → OnOk r Q
on_ok P Q (Ok a) f h = f h
on_ok P Q (Err e) f h = h
