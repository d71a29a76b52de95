-- The merge of lists of namings, each of which rises by day.
use Rattle.std.proofs.Common.{◌≡◌, ℕ, zero, suc, ◌+◌, ◌<◌, ◌⊎◌, ◌↔◌, Bool, true, false, List, [], ◌∷◌, ◌++◌, Option}
use Rattle.std.proofs.Common.{Some, None, length, get_or, IsPermutation, inl, inr, ⊎_elim, sym, subst, ap, ◌∙◌, refl}
use Rattle.std.proofs.Common.{arith}
use Rattle.std.specs.Prelude.{All, Any, Contains}
use Rattle.std.specs.Cmp.{Agrees, Some-then, IsTotalOrder, IsStrictWeakOrder, ranks, then_total, on_total}
use Rattle.std.specs.Cmp.{nat_cmp_total}
use Rattle.std.specs.Cmp.Lexicographic.{slice_cmp, nat_list_cmp_total, options_total}
use Rattle.std.specs.declared.cmp.Ordering.{Ordering}
use Rattle.std.specs.declared.cmp.Ordering.TheVariants.{Less, Equal, Greater}
use Rattle.std.specs.Iterator.{DrainsIf, YieldsFirst}
use Rattle.std.specs.Iterator.Runs.{Run, YieldsRun}
use Rattle.std.specs.List.Sorted.{IsSortedBy}
use Rattle.std.specs.Option.{option_cmp, option_partial_cmp}
use Rattle.std.specs.Ordering.{MatchOrdering, is_gt, is_lt, nat_cmp, on, ordering_reverse, ordering_then, partial_lt}
use Rattle.std.specs.Ordering.{partial_ordering_then, is_some_and, then_cmp}
use Rattle.std.proofs.lemmas.Iterator.{YieldsList, items_from_drains}
use Rattle.std.proofs.lemmas.Iterator.Consumers.{YieldsList-from_first}
use Rattle.std.proofs.lemmas.List.{map-id, append-nil}
use Rattle.std.proofs.lemmas.List.Elements.{Contains-append_left, Contains-append_right, Contains-append_cases}
use Rattle.std.proofs.lemmas.List.MinMax.{ranks_by}
use Rattle.std.proofs.lemmas.List.Sorted.{Contains-permutation, IsPermutation-sym, sorted_far}
use Rattle.itertools.specs.KMerge.{SourcesGive, joined_lists}
use Rattle.run_cycles.specs.declared.namings.Given.{Given}
use Rattle.run_cycles.specs.declared.namings.Naming.{Naming}
use Rattle.run_cycles.specs.Naming.{GivesAtMost, InOrder, IsNotAfter, RisesByDay}
use Rattle.run_cycles.specs.Occurrence.{IsNameAtMost}

-- ---- the order

abbrev pub given_cmp : Given → Given → Ordering
given_cmp =
    then_cmp (on (λ g. g.run_cycle) (slice_cmp nat_cmp)) (on
    (λ g. g.deadline) (then_cmp (on (λ d. d.days) nat_cmp) (on (λ d. d.time) nat_cmp)))

abbrev pub naming_cmp : Naming → Naming → Ordering
naming_cmp =
    then_cmp (on (λ n. n.day) nat_cmp) (then_cmp (on (λ n. n.time) nat_cmp) (on (λ n. n.given) (option_cmp given_cmp)))

abbrev pub comes_first : Naming → Naming → Bool
comes_first a b = is_lt (naming_cmp a b)

given_cmp_total : IsTotalOrder given_cmp
given_cmp_total =
    then_total (on_total (λ g. g.run_cycle) nat_list_cmp_total)
    (on_total (λ g. g.deadline) (then_total (on_total (λ d. d.days) nat_cmp_total)
    (on_total (λ d. d.time) nat_cmp_total)))

naming_cmp_total : IsTotalOrder naming_cmp
naming_cmp_total =
    then_total (on_total (λ n. n.day) nat_cmp_total)
    (then_total (on_total (λ n. n.time) nat_cmp_total) (on_total (λ n. n.given) (options_total given_cmp_total)))

pub naming_order : IsStrictWeakOrder comes_first
naming_order = ranks_by naming_cmp_total (λ n. n)

step : (o rest : Ordering) (P Q R : Type 0) → MatchOrdering o P Q R →
    is_lt (ordering_then o rest) ≡ false → R ⊎ (Q × (is_lt rest ≡ false))
step Less rest P Q R h e = cc
step Equal rest P Q R h e = inr (h, e)
step Greater rest P Q R h e = inl h

not_less : (o rest : Ordering) → is_lt (ordering_then o rest) ≡ false → is_gt (ordering_reverse o) ≡ false
not_less Less rest e = cc
not_less Equal rest e = refl
not_less Greater rest e = refl

name_at_most : (a b : List ℕ) (rest : Ordering) → is_lt (ordering_then (slice_cmp nat_cmp b a) rest) ≡ false →
    IsNameAtMost a b
name_at_most a b rest e = ap is_gt (nat_list_cmp_total.antisymm a b) ∙ not_less (slice_cmp nat_cmp b a) rest e

gives_at_most : (a b : Option Given) → is_lt (option_cmp given_cmp b a) ≡ false → GivesAtMost a b
gives_at_most None b e = tt
gives_at_most (Some g) None e = cc
gives_at_most (Some g) (Some h) e = name_at_most g.run_cycle h.run_cycle _ e

not_after : (a b : Naming) → comes_first b a ≡ false → IsNotAfter a b
not_after a b e =
    ⊎_elim
    (λ l. inl l)
    (λ p. inr (
      sym p.0,
      ⊎_elim (λ l. inl l) (λ q. inr (
        sym q.0,
        gives_at_most a.given b.given q.1,
      )) (step (nat_cmp b.time a.time) _ _ _ _ (ranks b.time a.time) p.1),
    ))
    (step (nat_cmp b.day a.day) _ _ _ _ (ranks b.day a.day) e)

pub in_order : (xs : List Naming) → IsSortedBy comes_first xs → InOrder xs
in_order xs sorted i j d i<j in' =
    not_after (get_or xs i d) (get_or xs j d) (sorted_far comes_first naming_order xs sorted i j d (omega (
      arith,
      i<j,
    )) in')

later_last : (x y : ℕ) (rest : Ordering) → y < x → is_lt (ordering_then (nat_cmp x y) rest) ≡ false
later_last x y rest h = at (nat_cmp x y) (ranks x y)
  where
    at : (o : Ordering) → MatchOrdering o (x < y) (x ≡ y) (y < x) → is_lt (ordering_then o rest) ≡ false
    at Less l = absurd (omega (arith, l, h))
    at Equal e = absurd (omega (arith, e, h))
    at Greater g = refl

rising_sorted : (xs : List Naming) → RisesByDay xs → IsSortedBy comes_first xs
rising_sorted xs rises k d low in' =
    later_last (get_or xs (k + 1) d).day (get_or xs k d).day _ (rises k (k + 1) d (omega arith) in')

pub each_sorted : (lists : List (List Naming)) → All RisesByDay lists → All (IsSortedBy comes_first) lists
each_sorted lists rise k d in' = rising_sorted (get_or lists k d) (rise k d in')

-- the comparison of namings field by field, where the numbers and names of any two compare
abbrev pub given_partial_cmp : Given → Given → Option Ordering
given_partial_cmp a b =
    partial_ordering_then (Some (slice_cmp nat_cmp a.run_cycle b.run_cycle))
    (partial_ordering_then (Some (nat_cmp a.deadline.days b.deadline.days))
    (Some (nat_cmp a.deadline.time b.deadline.time)))

abbrev pub naming_partial_cmp : Naming → Naming → Option Ordering
naming_partial_cmp a b =
    partial_ordering_then (Some (nat_cmp a.day b.day))
    (partial_ordering_then (Some (nat_cmp a.time b.time)) (option_partial_cmp given_partial_cmp a.given b.given))

given_agrees : Agrees given_partial_cmp given_cmp
given_agrees a b =
    ap (λ o. partial_ordering_then (Some (slice_cmp nat_cmp a.run_cycle b.run_cycle)) o)
    (Some-then (nat_cmp a.deadline.days b.deadline.days) (nat_cmp a.deadline.time b.deadline.time))
    ∙ Some-then (slice_cmp nat_cmp a.run_cycle b.run_cycle) (ordering_then
    (nat_cmp a.deadline.days b.deadline.days) (nat_cmp a.deadline.time b.deadline.time))

option_agrees : Agrees (option_partial_cmp given_partial_cmp) (option_cmp given_cmp)
option_agrees None None = refl
option_agrees None (Some b) = refl
option_agrees (Some a) None = refl
option_agrees (Some a) (Some b) = given_agrees a b

naming_agrees : Agrees naming_partial_cmp naming_cmp
naming_agrees a b =
    ap (λ o. partial_ordering_then (Some (nat_cmp a.day b.day))
    (partial_ordering_then (Some (nat_cmp a.time b.time)) o)) (option_agrees a.given b.given)
    ∙ ap (λ o. partial_ordering_then (Some (nat_cmp a.day b.day)) o)
    (Some-then (nat_cmp a.time b.time) (option_cmp given_cmp a.given b.given))
    ∙ Some-then (nat_cmp a.day b.day) (ordering_then (nat_cmp a.time b.time) (option_cmp given_cmp a.given b.given))

module _ (C : Naming → Naming → Option Ordering) (is : (a b : Naming) → C a b ≡ naming_partial_cmp a b) where
  same_test : partial_lt C ≡ comes_first
  same_test i a b = is_some_and is_lt ((is a b ∙ naming_agrees a b) i)

  pub first_order : IsStrictWeakOrder (partial_lt C)
  first_order = subst IsStrictWeakOrder (sym same_test) naming_order

  pub each_sorted_by : (lists : List (List Naming)) → All RisesByDay lists → All (IsSortedBy (partial_lt C)) lists
  each_sorted_by lists rise = subst (λ t. All (IsSortedBy t) lists) (sym same_test) (each_sorted lists rise)

  pub in_order_by : (xs : List Naming) → IsSortedBy (partial_lt C) xs → InOrder xs
  in_order_by xs sorted = in_order xs (subst (λ t. IsSortedBy t xs) same_test sorted)

-- ---- the sources of the merge and what it gives

pub sources_give : (lists : List (List Naming)) → SourcesGive
    (λ (s r : List Naming). r ≡ s) (YieldsFirst (λ (left : List Naming). left)) lists lists
sources_give [] = tt
sources_give (l ∷ ls) = (
  (λ j e. (YieldsList-from_first (λ x. x) (λ (left : List Naming). left) l e).runs),
  sources_give ls,
)

pub run_drains : {S A : Type 0} {steps : S → Option A → S → Type 0} (p : Run steps) →
    DrainsIf steps (p.whole ≡ true) p.from p.items
unfolding YieldsRun
run_drains p = p.gave.0

pub run_drains_from : {S A : Type 0} {steps : S → Option A → S → Type 0} (p : Run steps) (s : S) →
    p.from ≡ s → DrainsIf steps (p.whole ≡ true) s p.items
run_drains_from {S} {A} {steps} p s from =
    let D : S → Type 0 = λ t. DrainsIf steps (p.whole ≡ true) t p.items in
    subst D from (run_drains p)

-- a whole run of the list gave it
pub whole_run : {S A : Type 0} {steps : S → Option A → S → Type 0} (p : Run steps) (s : S) (all : List A) →
    p.from ≡ s → p.whole ≡ true → YieldsList steps (λ x. x) s all → p.items ≡ all
whole_run {S} {A} {steps} p s all from whole road =
    let D : S → Type 0 = λ t. DrainsIf steps (Unit {0}) t p.items in
    let drained = run_drains p in
    let (t, yields, ends) = drained in
    sym (map-id p.items) ∙ items_from_drains p.items (subst D from (t, yields, λ u. ends whole)) road

any_more : (l : List Naming) (ls : List (List Naming)) (x : Naming) →
    Any (λ s. Contains s x) (l ∷ ls) → Contains l x ⊎ Any (λ s. Contains s x) ls
any_more l ls x (zero', s, in', at, h) = split zero' in' at
  where
    split : (k : ℕ) → k < length (l ∷ ls) → get_or (l ∷ ls) k s ≡ s → Contains l x ⊎ Any (λ s. Contains s x) ls
    split zero in' at = let P : List Naming → Type 0 = λ y. Contains y x in inl (subst P (sym at) h)
    split (suc k) in' at = inr (k, s, omega (arith, in'), at, h)

pub contains_joined : (lists : List (List Naming)) (x : Naming) →
    Contains (joined_lists lists) x ↔ Any (λ s. Contains s x) lists
contains_joined [] x = ((λ h. absurd (omega (arith, h.1))), λ h. absurd (omega (arith, h.2)))
contains_joined (l ∷ ls) x =
    let so = contains_joined ls x in (
      (λ h. ⊎_elim
          (λ a. (0, l, omega arith, refl, a))
          (λ b. let (k, s, in', at, c) = so.0 b in (suc k, s, omega (arith, in'), at, c))
          (Contains-append_cases l (joined_lists ls) x h)),
      λ h. ⊎_elim
          (λ a. Contains-append_left l (joined_lists ls) x a)
          (λ b. Contains-append_right l (joined_lists ls) x (so.1 b))
          (any_more l ls x h),
    )

-- what the merge gave is what the lists have
pub merge_has : (lists : List (List Naming)) (items rest : List Naming) →
    IsPermutation (joined_lists lists) (items ++ rest) → rest ≡ [] →
    (x : Naming) → Contains items x ↔ Any (λ s. Contains s x) lists
merge_has lists items rest permutes none x =
    let whole : items ++ rest ≡ items = ap (λ r. items ++ r) none ∙ append-nil items in
    let P : List Naming → Type 0 = λ l. IsPermutation (joined_lists lists) l in
    let all = subst P whole permutes in (
      (λ h. (contains_joined lists x).0 (Contains-permutation items
          (joined_lists lists) x (IsPermutation-sym (joined_lists lists) items all) h)),
      λ h. Contains-permutation (joined_lists lists) items x all ((contains_joined lists x).1 h),
    )
