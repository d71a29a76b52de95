-- The places of a key, looked for in a part of a list.
use Rattle.std.proofs.Common.{◌≡◌, ℕ, ◌+◌, ◌-◌, ◌<◌, ◌≤◌, true, List, length, get_or, take, drop, refl}
use Rattle.std.proofs.Common.{sym, ap, subst, ◌∙◌, inl, inr, arith, Ordering, take-take, drop-drop, take-add}
use Rattle.std.specs.declared.cmp.Ordering.TheVariants.{Less, Equal, Greater}
use Rattle.std.specs.List.{Contains}
use Rattle.std.specs.Cmp.{IsTotalOrder}
use Rattle.std.specs.FinMap.{IsAntisymmetric}
use Rattle.std.specs.Ordering.{is_le, is_ge, ordering_reverse}
use Rattle.std.proofs.lemmas.Bool.{false≢true}
use Rattle.std.proofs.lemmas.List.{drop-take}
use Rattle.std.proofs.lemmas.List.Elements.{Contains-append_cases}
use Rattle.plan_store_lists.specs.Keyed.{IsKeyed}
use Rattle.plan_store_lists.proofs.MergeLemmas.{front_last, back_first, halves_below, between_cases}

module _ {X K : Type 0} {cmp : K → K → Ordering} (total : IsTotalOrder cmp) (ties : IsAntisymmetric cmp) (key : X → K)
    (xs : List X) (k : K)
  where
    module _ (keyed : IsKeyed cmp key xs) where
      pub below_start : (start : ℕ) (q y : X) → start < length xs → q ≡ get_or xs start q
          → is_le (cmp (key q) k) ≡ true → Contains (take start xs) y → cmp (key y) k ≡ Less
      below_start start q y lt at_q is there =
          let less : cmp (key y) (key q) ≡ Less = halves_below total ties key xs keyed start (omega arith) y q there
          (subst (Contains (drop start xs)) (sym at_q) (back_first xs start q lt)) in
          elim (cmp (key q) k) as (λ o. cmp (key q) k ≡ o → is_le o ≡ true → cmp (key y) k ≡ Less) [
            | Less ↦ λ e _. total.trans (key y) (key q) k less e
            | Equal ↦ λ e _. subst (λ z. cmp (key y) z ≡ Less) (ties (key q) k e) less
            | Greater ↦ λ _ no. absurd (false≢true no)
          ] refl is

      pub above_end : (end : ℕ) (q y : X) → 1 ≤ end → end ≤ length xs → q ≡ get_or xs (end - 1) q
          → is_ge (cmp (key q) k) ≡ true → Contains (drop end xs) y → cmp k (key y) ≡ Less
      above_end end q y some within at_q is there =
          let back : end - 1 + 1 ≡ end = omega arith in
          let q_in : Contains (take end xs) q = subst (λ n. Contains (take n xs) q) back
          (subst (Contains (take (end - 1 + 1) xs)) (sym at_q) (front_last xs (end - 1) q (omega arith))) in
          let less : cmp (key q) (key y) ≡ Less = halves_below total ties key xs keyed end within q y q_in there in
          elim (cmp (key q) k) as (λ o. cmp (key q) k ≡ o → is_ge o ≡ true → cmp k (key y) ≡ Less) [
            | Less ↦ λ _ no. absurd (false≢true no)
            | Equal ↦ λ e _. subst (λ z. cmp z (key y) ≡ Less) (ties (key q) k e) less
            | Greater ↦ λ e _. total.trans k (key q) (key y) (total.antisymm k (key q) ∙ ap ordering_reverse e) less
          ] refl is

    -- a search in a front whose rest is above
    module _ (end a b : ℕ) (within : end ≤ length xs) (le : a ≤ b) (inside : b ≤ end) where
      pub front_below : ((y : X) → Contains (take a (take end xs)) y → cmp (key y) k ≡ Less) → (y : X)
          → Contains (take a xs) y → cmp (key y) k ≡ Less
      front_below below y there = below y (subst (λ l. Contains l y) (sym (take-take a end xs (omega arith))) there)

      pub front_equal : ((y : X) → Contains (drop a (take b (take end xs))) y → key y ≡ k) → (y : X)
          → Contains (drop a (take b xs)) y → key y ≡ k
      front_equal equal y there = equal y (subst (λ l. Contains (drop a l) y) (sym (take-take b end xs inside)) there)

      pub front_above : ((y : X) → Contains (drop b (take end xs)) y → cmp k (key y) ≡ Less)
          → ((y : X) → Contains (drop end xs) y → cmp k (key y) ≡ Less) → (y : X) → Contains (drop b xs) y
          → cmp k (key y) ≡ Less
      front_above above after y there = elim (between_cases xs b end y inside within there) [
        | inl front ↦ above y front
        | inr rest ↦ after y rest
      ]

    -- a search in a back whose front is below
    module _ (start a b : ℕ) where
      pub back_below : ((y : X) → Contains (take start xs) y → cmp (key y) k ≡ Less)
          → ((y : X) → Contains (take a (drop start xs)) y → cmp (key y) k ≡ Less) → (y : X)
          → Contains (take (start + a) xs) y → cmp (key y) k ≡ Less
      back_below before below y there = elim (Contains-append_cases (take start xs) (take a (drop start xs)) y
          (subst (λ l. Contains l y) (take-add start a xs) there)) [
            | inl front ↦ before y front
            | inr back ↦ below y back
          ]

      pub back_equal : ((y : X) → Contains (drop a (take b (drop start xs))) y → key y ≡ k) → (y : X)
          → Contains (drop (start + a) (take (start + b) xs)) y → key y ≡ k
      back_equal equal y there = equal y (subst (λ l. Contains l y) (sym (drop-drop a start (take (start + b) xs))
          ∙ ap (drop a) (drop-take start b xs)) there)

      pub back_above : ((y : X) → Contains (drop b (drop start xs)) y → cmp k (key y) ≡ Less) → (y : X)
          → Contains (drop (start + b) xs) y → cmp k (key y) ≡ Less
      back_above above y there = above y (subst (λ l. Contains l y) (sym (drop-drop b start xs)) there)
