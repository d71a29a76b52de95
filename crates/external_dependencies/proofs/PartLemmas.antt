-- The part of a list in rising order that has one key, where the order begins with that of the keys.
use Rattle.std.proofs.Common.{◌≡◌, ◌↔◌, ℕ, ◌+◌, ◌<◌, ◌≤◌, true, false, List, length, get_or, take, drop, refl, sym}
use Rattle.std.proofs.Common.{ap, subst, inl, inr, arith, Ordering}
use Rattle.std.specs.declared.cmp.Ordering.TheVariants.{Less, Equal, Greater}
use Rattle.std.specs.FinMap.{IsAntisymmetric}
use Rattle.std.specs.List.{Contains}
use Rattle.std.specs.List.Sorted.{IsPartitionedBy, IsPartitionPoint}
use Rattle.std.specs.Cmp.{IsTotalOrder}
use Rattle.std.specs.Ordering.{is_lt, is_le, ordering_then}
use Rattle.std.proofs.lemmas.Cmp.{tied_itself}
use Rattle.std.proofs.lemmas.List.{get_or-drop, get_or-take, length-drop, length-take-le}
use Rattle.external_dependencies.specs.Rising.{IsRising}
use Rattle.external_dependencies.proofs.OrderLemmas.{AtMost, less_after, at_most_after, at_most_from, not_less_then}
use Rattle.external_dependencies.proofs.OrderLemmas.{rising_at_most, then_less, then_equal, between_is}

-- a part of a rising list rises
pub part_rising : {X : Type 0} (cmp : X → X → Ordering) (xs : List X) (start count : ℕ) → IsRising cmp xs
    → count ≤ length (drop start xs) → IsRising cmp (take count (drop start xs))
part_rising cmp xs start count rising fits i j d lt in_range =
    let short : j < count = omega (arith, length-take-le count (drop start xs) fits) in
    let short' : i < count = omega arith in
    let at_i = get_or-take count (drop start xs) i d short' in
    let at_j = get_or-take count (drop start xs) j d short in
    let from_i = get_or-drop start xs i d in
    let from_j = get_or-drop start xs j d in
    let is : cmp (get_or xs (start + i) d) (get_or xs (start + j) d) ≡ Less =
    rising (start + i) (start + j) d (omega arith) (omega (arith, length-drop start xs)) in
    rw (at_i, at_j, from_i, from_j) is

-- where keys do not fall along the list
module _ {T K : Type 0} (key : T → K) {R : K → K → Ordering} (keys : IsTotalOrder R) (ties : IsAntisymmetric R)
    (xs : List T)
    (rise : (i j : ℕ) (d : T) → i ≤ j → j < length xs → AtMost keys (key (get_or xs i d)) (key (get_or xs j d)))
    (k : K) where
  pub keyed_below : IsPartitionedBy (λ (x : T). is_lt (R (key x) k)) xs
  keyed_below i j d le lt is = ap is_lt (less_after keys (key (get_or xs i d)) (key (get_or xs j d)) k
      (rise i j d le lt) (less_from (key (get_or xs j d)) is))
    where
      less_from : (x : K) → is_lt (R x k) ≡ true → R x k ≡ Less
      less_from x is = elim (R x k) as (λ r. is_lt r ≡ true → r ≡ Less) [
        | Less ↦ λ _. refl
        | Equal ↦ λ is. cc
        | Greater ↦ λ is. cc
      ] is

  pub keyed_upto : (start : ℕ) → IsPartitionedBy (λ (x : T). is_le (R (key x) k)) (drop start xs)
  keyed_upto start i j d le lt is =
      let at_j : get_or (drop start xs) j d ≡ get_or xs (start + j) d = get_or-drop start xs j d in
      let at_i : get_or (drop start xs) i d ≡ get_or xs (start + i) d = get_or-drop start xs i d in
      let long : start + j < length xs = omega (arith, length-drop start xs) in
      let upto_j : is_le (R (key (get_or xs (start + j) d)) k) ≡ true =
      subst (λ (x : T). is_le (R (key x) k) ≡ true) at_j is in
      subst (λ (x : T). is_le (R (key x) k) ≡ true) (sym at_i)
      (is_le_from (key (get_or xs (start + i) d))
      (at_most_after keys (key (get_or xs (start + i) d)) (key (get_or xs (start + j) d)) k
      (rise (start + i) (start + j) d (omega arith) long)
      (at_most_from keys (key (get_or xs (start + j) d)) k upto_j)))
    where
      is_le_from : (x : K) → AtMost keys x k → is_le (R x k) ≡ true
      is_le_from x (inl less) = ap is_le less
      is_le_from x (inr same) = ap is_le same

  -- the elements from the first of the key to the last
  pub keyed_part : (start count : ℕ) → start ≤ length xs
      → IsPartitionPoint (λ (x : T). is_lt (R (key x) k) ≡ true) (λ (x : T). is_lt (R (key x) k) ≡ false) xs start
      → count ≤ length (drop start xs) → IsPartitionPoint (λ (x : T). is_le (R (key x) k) ≡ true)
      (λ (x : T). is_le (R (key x) k) ≡ false) (drop start xs) count
      → (x : T) → Contains (take count (drop start xs)) x ↔ (Contains xs x × (key x ≡ k))
  keyed_part start count in_range point in_rest point' x =
      let both = between_is xs (λ (y : T). is_lt (R (key y) k))
      (λ (y : T). is_le (R (key y) k)) start count in_range point in_rest point' x in (
        (λ here. let facts = both.0 here in (facts.0, ties (key x) k (not_less_then keys (key x) k facts.1 facts.2))),
        λ here.
            let tied : R (key x) k ≡ Equal = subst (λ y. R (key x) y ≡ Equal) here.1 (tied_itself keys (key x)) in
            both.1 (here.0, ap is_lt tied, ap is_le tied),
      )

-- where the list rises by an order that begins with that of the keys
module _ {T K : Type 0} (key : T → K) {R : K → K → Ordering} (keys : IsTotalOrder R) (ties : IsAntisymmetric R)
    (rest : T → T → Ordering) (whole : IsTotalOrder (λ (x y : T). ordering_then (R (key x) (key y)) (rest x y)))
    (xs : List T) (rising : IsRising (λ (x y : T). ordering_then (R (key x) (key y)) (rest x y)) xs) (k : K) where
  keys_at_most : (x y : T) → AtMost whole x y → AtMost keys (key x) (key y)
  keys_at_most x y (inl less) = elim (then_less (R (key x) (key y))
      (rest x y) less) [ inl below ↦ inl below | inr tied ↦ inr tied.0 ]
  keys_at_most x y (inr same) = inr (then_equal (R (key x) (key y)) (rest x y) same).0

  keys_rise : (i j : ℕ) (d : T) → i ≤ j → j < length xs → AtMost keys (key (get_or xs i d)) (key (get_or xs j d))
  keys_rise i j d le lt = keys_at_most (get_or xs i d) (get_or xs j d) (rising_at_most whole xs rising i j d le lt)

  pub parted_below : IsPartitionedBy (λ (x : T). is_lt (R (key x) k)) xs
  parted_below = keyed_below key keys ties xs keys_rise k

  pub parted_upto : (start : ℕ) → IsPartitionedBy (λ (x : T). is_le (R (key x) k)) (drop start xs)
  parted_upto = keyed_upto key keys ties xs keys_rise k

  pub part_is : (start count : ℕ) → start ≤ length xs
      → IsPartitionPoint (λ (x : T). is_lt (R (key x) k) ≡ true) (λ (x : T). is_lt (R (key x) k) ≡ false) xs start
      → count ≤ length (drop start xs) → IsPartitionPoint (λ (x : T). is_le (R (key x) k) ≡ true)
      (λ (x : T). is_le (R (key x) k) ≡ false) (drop start xs) count
      → (x : T) → Contains (take count (drop start xs)) x ↔ (Contains xs x × (key x ≡ k))
  part_is = keyed_part key keys ties xs keys_rise k
