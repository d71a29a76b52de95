-- Room for a part of what there is room for.
use Rattle.std.proofs.Common.{◌≤◌, Bool, true, false, cond, List, [], ◌∷◌, length, arith, Ordering}
use Rattle.std.specs.List.{filter}
use Rattle.std.specs.Ordering.{is_eq}
use Rattle.plan_store_lists.specs.Blocks.{HasRoomFor}
use Rattle.plan_store_lists.specs.declared.blocks.Block.{Block}
use Rattle.plan_store_lists.proofs.KeyLemmas.{contains_filter}

fewer : {X : Type 0} (p q : X → Bool) (xs : List X) → length (filter q (filter p xs)) ≤ length (filter q xs)
fewer p q [] = omega arith
fewer p q (x ∷ xs) =
    let rest = fewer p q xs in
    elim (p x) as (λ b. length (filter q (cond b (x ∷ filter p xs) (filter p xs))) ≤ length (filter q (x ∷ xs))) [
      | true ↦ elim (q x) as (λ b. length (cond b (x ∷ filter q (filter p xs)) (filter q (filter p xs)))
          ≤ length (cond b (x ∷ filter q xs) (filter q xs))) [
            | true ↦ omega (arith, rest)
            | false ↦ rest
          ]
      | false ↦ elim (q x) as (λ b. length (filter q (filter p xs)) ≤ length (cond b (x ∷ filter q xs) (filter q xs))) [
        | true ↦ omega (arith, rest)
        | false ↦ rest
      ]
    ]

pub room_of_part : {G X : Type 0} (group_cmp : G → G → Ordering) (group_of : X → G) (p : X → Bool) (xs : List X)
    (blocks : List (Block G X)) → HasRoomFor group_cmp group_of xs blocks
    → HasRoomFor group_cmp group_of (filter p xs) blocks
room_of_part group_cmp group_of p xs blocks room x there =
    let (block, among, same, fits) = room x (contains_filter p xs x there).0 in
    (block, among, same, omega (arith, fits, fewer p (λ y. is_eq (group_cmp (group_of y) (group_of x))) xs))
