-- Blocks of a list that move down.
use Rattle.std.proofs.Common.{◌≡◌, ℕ, ◌+◌, ◌-◌, ◌≤◌, List, ◌++◌, length, take, drop, sym, ap, ◌∙◌, arith, length-drop}
use Rattle.std.proofs.Common.{drop-drop, take-add}
use Rattle.std.specs.List.{copy_within}
use Rattle.std.proofs.lemmas.List.Edits.{drop-paste}

module _ {X : Type 0} (xs zs : List X) (from count place : ℕ) where
  pub rest_down : place ≤ from → from + count ≤ length xs → zs ≡ copy_within xs from (from + count) place
      → drop (from + count) zs ≡ drop (from + count) xs
  rest_down low within is =
      let many : from + count - from ≡ count = omega arith in
      let step : place + count + (from - place) ≡ from + count = omega arith in
      let far : (ls : List X) → drop (from - place) (drop (place + count) ls) ≡ drop (from + count) ls =
      λ ls. drop-drop (from - place) (place + count) ls ∙ ap (λ n. drop n ls) step in
      sym (far zs) ∙ ap (λ l. drop (from - place) (drop (place + count) l))
      (is ∙ ap (λ m. take place xs ++ take m (drop from xs) ++ drop (place + m) xs) many) ∙ ap (drop (from - place))
      (drop-paste xs place (drop from xs) count (omega arith) (omega (arith, length-drop from xs))) ∙ far xs

  -- no move at all
  pub stays_down : place ≤ from → from ≤ place → take (place + count) xs ≡ take place xs ++ take count (drop from xs)
  stays_down low high =
      let same : place ≡ from = omega arith in
      take-add place count xs ∙ ap (λ n. take place xs ++ take count (drop n xs)) same
