use Rattle.std.proofs.Common.{◌≡◌, ◌<◌, ◌++◌, ◌∙◌, List, [], ◌∷◌, length, subst, rules, arith}
use Rattle.std.proofs.lemmas.Bool.{false≢true}
use Rattle.std.specs.List.{Contains}
use Rattle.plan_store_lists.proofs.BlockLemmas.{contains_items}
use Rattle.plan_store_lists.proofs.KeyLemmas.{nothing}
use Rattle.plan_store_lists.proofs.RunLemmas.{items_more}
use Rattle.plan_store_lists.proofs.blocks.Blocks.is_empty.Goals as goal

none : {X : Type 0} (xs : List X) → length xs ≡ 0 → xs ≡ []
none [] is = λ i. []
none (x ∷ xs) is = absurd (omega (arith, is))

some : {X : Type 0} (xs : List X) → (length xs ≡ 0 → ⊥) → (x : X) × Contains xs x
some [] not = absurd (not (λ i. 0))
some (x ∷ xs) not = (x, (0, omega arith, λ i. x))

pub loop-block-preserved : goal.loop-block-preserved
loop-block-preserved g c =
    let block = c.block-item.result in
    let blocks = c.args.self.now.blocks.items in
    let lt : c.loop-block.block-index < length blocks = search rules in
    let long : length block.items.items ≡ 0 = search rules in
    items_more blocks c.loop-block.block-index block lt (search rules)
    ∙ (λ i. c.loop-block.invariant i ++ none block.items.items long i)

pub returns-then-not-is_empty : goal.returns-then-not-is_empty
returns-then-not-is_empty g c =
    let block = c.block-item.result in
    let blocks = c.args.self.now.blocks.items in
    let lt : c.loop-block.block-index < length blocks = search rules in
    let at : Contains blocks block = search rules in
    let long : length block.items.items ≡ 0 → ⊥ = search rules in (
      (λ yes. absurd (false≢true yes)),
      λ empty. let (x, there) = some block.items.items long in
          absurd (nothing x (subst (λ (l : List g.row.T.Denot). Contains l x) empty
          ((contains_items blocks x).1 (block, at, there)))),
    )
