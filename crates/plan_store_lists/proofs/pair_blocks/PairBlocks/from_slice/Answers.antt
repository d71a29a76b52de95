use Rattle.std.proofs.Common.{◌≡◌, ◌∙◌, [], ap, subst, inl, inr}
use Rattle.std.specs.List.{Contains}
use Rattle.std.specs.Ordering.{nat_cmp}
use Rattle.external_dependencies.specs.Pair.{pair_cmp}
use Rattle.external_dependencies.specs.declared.pairs.Pair.{Pair}
use Rattle.external_dependencies.proofs.LexLemmas.{pair_total}
use Rattle.external_dependencies.proofs.RisingLemmas.{rising_unique}
use Rattle.plan_store_lists.specs.Blocks.{items_in, items_of}
use Rattle.plan_store_lists.specs.PairBlocks.{groups_rise, pair_group}
use Rattle.plan_store_lists.proofs.BlockLemmas.{blocks_keyed}
use Rattle.plan_store_lists.proofs.KeyLemmas.{nothing}
use Rattle.plan_store_lists.proofs.pair_blocks.PairBlocks.from_slice.Goals as goal

pub returns : goal.returns
returns c =
    let blocks = c.insert_into.new.list.blocks.items in
    let inserted = c.insert_into.ensures.inserted in
    let none : items_of c.reserve_for.new.list ≡ [] = c.reserve_for.ensures.same
    ∙ ap (λ bs. items_in bs) c.new-blocks.ensures in
    rising_unique pair_cmp pair_total (items_in blocks) c.args.pairs.now
    (blocks_keyed nat_cmp pair_cmp pair_group (λ (pair : Pair). pair) blocks c.insert_into.ensures.blocks groups_rise)
    c.requires (λ x. (
      (λ there. elim ((inserted x).0 there) [
        | inl given ↦ given
        | inr old ↦ absurd (nothing x (subst (λ l. Contains l x) none old))
      ]),
      λ there. (inserted x).1 (inl there),
    ))
