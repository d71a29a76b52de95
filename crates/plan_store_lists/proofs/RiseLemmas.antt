-- Lists in which each item is below the next.
use Rattle.std.proofs.Common.{◌≡◌, ℕ, zero, suc, ◌+◌, ◌-◌, ◌<◌, ◌≤◌, true, false, List, length, get_or, refl, sym, ap, subst}
use Rattle.std.proofs.Common.{◌∙◌, arith, Ordering}
use Rattle.std.specs.declared.cmp.Ordering.TheVariants.{Less, Equal, Greater}
use Rattle.std.specs.Cmp.{IsTotalOrder}
use Rattle.std.specs.List.{AllAdjacentBelow}
use Rattle.std.specs.Ordering.{is_ge}
use Rattle.std.proofs.lemmas.Bool.{false≢true}
use Rattle.std.proofs.lemmas.List.{get_or_default}
use Rattle.plan_store_lists.specs.Keyed.{IsKeyed}

-- they are in order
pub adjacent_keyed : {X K : Type 0} {cmp : K → K → Ordering} (total : IsTotalOrder cmp) (key : X → K) (xs : List X)
    (n : ℕ) → AllAdjacentBelow (λ x y. cmp (key x) (key y) ≡ Less) xs n → length xs ≤ n → IsKeyed cmp key xs
adjacent_keyed {cmp = cmp} total key xs n next all i j d below lt =
    let end : i + suc (j - i - 1) ≡ j = omega arith in
    subst (λ m. cmp (key (get_or xs i d)) (key (get_or xs m d)) ≡ Less) end (far (j - i - 1) (omega arith))
  where
    far : (gap : ℕ) → i + suc gap < length xs → cmp (key (get_or xs i d)) (key (get_or xs (i + suc gap) d)) ≡ Less
    far zero within = subst (λ m. cmp (key (get_or xs i d)) (key (get_or xs m d)) ≡ Less) (omega arith)
        (next i d (omega (arith, within)))
    far (suc gap) within = total.trans (key (get_or xs i d)) (key (get_or xs (i + suc gap) d))
        (key (get_or xs (i + suc (suc gap)) d)) (far gap (omega (arith, within)))
        (subst (λ m. cmp (key (get_or xs (i + suc gap) d)) (key (get_or xs m d)) ≡ Less) (omega arith)
        (next (i + suc gap) d (omega (arith, within))))

-- an item and the next
module _ {X K : Type 0} (key : X → K) (cmp : K → K → Ordering) (xs : List X) (at : ℕ) (before here : X) (some : 0 < at)
    (lt : at < length xs) (at_before : before ≡ get_or xs (at - 1) before) (at_here : here ≡ get_or xs at here) where
  pub below_next : is_ge (cmp (key before) (key here)) ≡ false → (d : X)
      → cmp (key (get_or xs (at - 1) d)) (key (get_or xs at d)) ≡ Less
  below_next is d = rw (
    get_or_default xs (at - 1) d before (omega arith) ∙ sym at_before,
    get_or_default xs at d here lt ∙ sym at_here,
  ) (less (cmp (key before) (key here)) is)
    where
      less : (o : Ordering) → is_ge o ≡ false → o ≡ Less
      less Less is = refl
      less Equal is = absurd (false≢true (sym is))
      less Greater is = absurd (false≢true (sym is))

  pub not_below : is_ge (cmp (key before) (key here)) ≡ true → IsKeyed cmp key xs → ⊥
  not_below is keyed =
      let less : cmp (key before) (key here) ≡ Less = (λ i. cmp (key (at_before i)) (key (at_here i)))
      ∙ ap (λ x. cmp (key (get_or xs (at - 1) before)) (key x)) (get_or_default xs at here before lt)
      ∙ keyed (at - 1) at before (omega arith) lt in
      false≢true (ap is_ge (sym less) ∙ is)
