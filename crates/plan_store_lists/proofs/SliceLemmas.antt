-- Parts of lists in the order of something.
use Rattle.std.proofs.Common.{◌≡◌, ◌↔◌, ℕ, ltb, ◌+◌, ◌-◌, ◌<◌, ◌≤◌, ◌⊎◌, Bool, true, false, List, length, get_or, take}
use Rattle.std.proofs.Common.{drop, refl, sym, ap, subst, ◌∙◌, inl, inr, arith, Ordering}
use Rattle.std.specs.declared.cmp.Ordering.TheVariants.{Less, Equal, Greater}
use Rattle.std.specs.List.{Contains}
use Rattle.std.specs.List.Sorted.{IsPartitionedBy, IsPartitionPoint}
use Rattle.std.specs.Cmp.{IsTotalOrder}
use Rattle.std.specs.Cmp.Lexicographic.{slice_cmp}
use Rattle.std.specs.FinMap.{IsAntisymmetric, nat_cmp-IsAntisymmetric, slice_cmp-IsAntisymmetric}
use Rattle.std.specs.Ordering.{nat_cmp, ordering_then, is_lt, is_le}
use Rattle.std.proofs.lemmas.Cmp.{nat_cmp_total, ranked, tied_itself, alike_right}
use Rattle.std.proofs.lemmas.List.{get_or-take, get_or-drop, length-drop, length-take-le}
use Rattle.std.proofs.lemmas.Bool.{cases_lt, false≢true, lt-ltb, ltb-true}
use Rattle.plan_store_lists.specs.Keyed.{IsKeyed}

pub name_ties : IsAntisymmetric (slice_cmp nat_cmp)
name_ties = slice_cmp-IsAntisymmetric nat_cmp-IsAntisymmetric

pub less_not_equal : Less ≡ Equal → ⊥
less_not_equal is = cc

pub then_less : (o p : Ordering) → ordering_then o p ≡ Less → (o ≡ Less) ⊎ ((o ≡ Equal) × (p ≡ Less))
then_less Less p is = inl refl
then_less Equal p is = inr (refl, is)
then_less Greater p is = cc

module _ {M : Type 0} {R : M → M → Ordering} (o : IsTotalOrder R) where
  abbrev pub AtMost : M → M → Type 0
  AtMost x y = (R x y ≡ Less) ⊎ (R x y ≡ Equal)

  less_after : (x y z : M) → AtMost x y → R y z ≡ Less → R x z ≡ Less
  less_after x y z (inl less) is = o.trans x y z less is
  less_after x y z (inr same) is = o.congr x y z same ∙ is

  at_most_after : (x y z : M) → AtMost x y → AtMost y z → AtMost x z
  at_most_after x y z below (inl less) = inl (less_after x y z below less)
  at_most_after x y z (inl less) (inr same) = inl (sym (alike_right o y z x same) ∙ less)
  at_most_after x y z (inr tied) (inr same) = inr (o.congr x y z tied ∙ same)

  less_from : (x y : M) → is_lt (R x y) ≡ true → R x y ≡ Less
  less_from x y is = elim (R x y) as (λ r. is_lt r ≡ true → r ≡ Less) [
    | Less ↦ λ _. refl
    | Equal ↦ λ is. absurd (false≢true is)
    | Greater ↦ λ is. absurd (false≢true is)
  ] is

  at_most_from : (x y : M) → is_le (R x y) ≡ true → AtMost x y
  at_most_from x y is = elim (R x y) as (λ r. is_le r ≡ true → (r ≡ Less) ⊎ (r ≡ Equal)) [
    | Less ↦ λ _. inl refl
    | Equal ↦ λ _. inr refl
    | Greater ↦ λ is. absurd (false≢true is)
  ] is

  is_le_from : (x y : M) → AtMost x y → is_le (R x y) ≡ true
  is_le_from x y (inl less) = ap is_le less
  is_le_from x y (inr same) = ap is_le same

  equal_from : (x y : M) → is_lt (R x y) ≡ false → is_le (R x y) ≡ true → R x y ≡ Equal
  equal_from x y not_lt is = elim (R x y) as (λ r. is_lt r ≡ false → is_le r ≡ true → r ≡ Equal) [
    | Less ↦ λ not_lt _. cc
    | Equal ↦ λ _ _. refl
    | Greater ↦ λ _ is. cc
  ] not_lt is

  module _ {X : Type 0} (f : X → M) where
    -- what the items have does not fall along the list
    abbrev pub Rises : List X → Type 0
    Rises xs = (i j : ℕ) (d : X) → i ≤ j → j < length xs → AtMost (f (get_or xs i d)) (f (get_or xs j d))

    pub rises_drop : (xs : List X) (n : ℕ) → Rises xs → Rises (drop n xs)
    rises_drop xs n rises i j d le lt = rw (get_or-drop n xs i d, get_or-drop n xs j d)
        (rises (n + i) (n + j) d (omega arith) (omega (arith, length-drop n xs)))

    pub parted_below : (xs : List X) (m : M) → Rises xs → IsPartitionedBy (λ x. is_lt (R (f x) m)) xs
    parted_below xs m rises i j d le lt is =
        ap is_lt (less_after (f (get_or xs i d)) (f (get_or xs j d)) m (rises i j d le lt)
        (less_from (f (get_or xs j d)) m is))

    pub parted_upto : (xs : List X) (m : M) → Rises xs → IsPartitionedBy (λ x. is_le (R (f x) m)) xs
    parted_upto xs m rises i j d le lt is =
        is_le_from (f (get_or xs i d)) m (at_most_after (f (get_or xs i d)) (f (get_or xs j d)) m (rises i j d le lt)
        (at_most_from (f (get_or xs j d)) m is))

    -- the items between those below and those above
    pub between : IsAntisymmetric R → (xs : List X) (m : M) (start count : ℕ) → start ≤ length xs
        → IsPartitionPoint (λ x. is_lt (R (f x) m) ≡ true) (λ x. is_lt (R (f x) m) ≡ false) xs start
        → count ≤ length (drop start xs)
        → IsPartitionPoint (λ x. is_le (R (f x) m) ≡ true) (λ x. is_le (R (f x) m) ≡ false) (drop start xs) count
        → (x : X) → Contains (take count (drop start xs)) x ↔ (Contains xs x × (f x ≡ m))
    between ties xs m start count in_range point in_rest point' x = (forward, backward)
      where
        forward : Contains (take count (drop start xs)) x → Contains xs x × (f x ≡ m)
        forward (k, lt, at) =
            let short : k < count = omega (arith, length-take-le count (drop start xs) in_rest) in
            let long : start + k < length xs = omega (arith, length-drop start xs) in
            let in_rest_at : get_or (drop start xs) k x ≡ x = sym (get_or-take count (drop start xs) k x short) ∙ at in
            let in_all : get_or xs (start + k) x ≡ x = sym (get_or-drop start xs k x) ∙ in_rest_at in
            let not_below : is_lt (R (f x) m) ≡ false = subst (λ (y : X). is_lt (R (f y) m) ≡ false) in_all
            (point.1 (start + k) x (omega arith) long) in
            let upto : is_le (R (f x) m) ≡ true = subst (λ (y : X). is_le (R (f y) m) ≡ true) in_rest_at
            (point'.0 k x (omega arith) short) in
            ((start + k, long, in_all), ties (f x) m (equal_from (f x) m not_below upto))

        tied : f x ≡ m → R (f x) m ≡ Equal
        tied same = subst (λ y. R (f x) y ≡ Equal) same (tied_itself o (f x))

        backward : Contains xs x × (f x ≡ m) → Contains (take count (drop start xs)) x
        backward ((k, lt, at), same) = elim (cases_lt k start) [
          | inl front ↦ absurd (false≢true (sym (ap is_lt (tied same)) ∙ subst (λ (y : X). is_lt (R (f y) m) ≡ true) at
              (point.0 k x (omega arith) front)))
          | inr back ↦
              let there : start + (k - start) ≡ k = omega arith in
              let at_rest : get_or (drop start xs) (k - start) x ≡ x = get_or-drop start xs (k - start) x
              ∙ ap (λ n. get_or xs n x) there ∙ at in
              let long : k - start < length (drop start xs) = omega (arith, length-drop start xs) in
              elim (cases_lt (k - start) count) [
                | inl short ↦ (
                  k - start,
                  omega (arith, length-take-le count (drop start xs) in_rest),
                  get_or-take count
                      (drop start xs) (k - start) x short ∙ at_rest,
                )
                | inr far ↦ absurd (false≢true (sym (subst (λ (y : X). is_le (R (f y) m) ≡ false) at_rest
                    (point'.1 (k - start) x far long)) ∙ ap is_le (tied same)))
              ]
        ]

at_most_le : (x y : ℕ) → AtMost nat_cmp_total x y → x ≤ y
at_most_le x y (inl less) = let below : x < y = ranked x y Less (sym less) in omega arith
at_most_le x y (inr same) = let is : x ≡ y = ranked x y Equal (sym same) in omega arith

-- numbers that do not fall along the list
pub parted_before : {X : Type 0} (f : X → ℕ) (xs : List X) (m : ℕ) → Rises nat_cmp_total f xs
    → IsPartitionedBy (λ x. ltb (f x) m) xs
parted_before f xs m rises i j d le lt is =
    let low = at_most_le (f (get_or xs i d)) (f (get_or xs j d)) (rises i j d le lt) in
    let below = ltb-true (f (get_or xs j d)) m is in
    lt-ltb (f (get_or xs i d)) m (omega arith)

-- the items below
pub front : {X : Type 0} (xs : List X) (below : X → Bool) (count : ℕ) → count ≤ length xs
    → IsPartitionPoint (λ x. below x ≡ true) (λ x. below x ≡ false) xs count → (x : X) → Contains (take count xs) x
    ↔ (Contains xs x × (below x ≡ true))
front {X} xs below count le point x = (forward, backward)
  where
    forward : Contains (take count xs) x → Contains xs x × (below x ≡ true)
    forward (k, lt, at) =
        let short : k < count = omega (arith, length-take-le count xs le) in
        let here : get_or xs k x ≡ x = sym (get_or-take count xs k x short) ∙ at in
        ((k, omega arith, here), subst (λ (y : X). below y ≡ true) here (point.0 k x (omega arith) short))

    backward : Contains xs x × (below x ≡ true) → Contains (take count xs) x
    backward ((k, lt, at), is) = elim (cases_lt k count) [
      | inl short ↦ (k, omega (arith, length-take-le count xs le), get_or-take count xs k x short ∙ at)
      | inr far ↦ absurd (false≢true (sym (subst (λ (y : X). below y ≡ false) at (point.1 k x far lt)) ∙ is))
    ]

-- parts of a list in the order of a key
module _ {X K : Type 0} (cmp : K → K → Ordering) (key : X → K) (xs : List X) (keyed : IsKeyed cmp key xs) where
  pub drop_keyed : (n : ℕ) → IsKeyed cmp key (drop n xs)
  drop_keyed n i j d lt lt_j = rw (get_or-drop n xs i d, get_or-drop n xs j d)
      (keyed (n + i) (n + j) d (omega arith) (omega (arith, length-drop n xs)))

  pub take_keyed : (n : ℕ) → n ≤ length xs → IsKeyed cmp key (take n xs)
  take_keyed n le i j d lt lt_j =
      let short : j < n = omega (arith, length-take-le n xs le) in
      rw (get_or-take n xs i d (omega arith), get_or-take n xs j d short) (keyed i j d lt (omega arith))
