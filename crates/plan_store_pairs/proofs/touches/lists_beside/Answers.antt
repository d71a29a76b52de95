use Rattle.std.proofs.Common.{◌⊎◌, ◌+◌, ◌++◌, ◌∙◌, ap, arith, inl, inr, subst, sym, take}
use Rattle.std.specs.List.{Contains}
use Rattle.std.proofs.lemmas.List.{take_all}
use Rattle.std.proofs.lemmas.List.Elements.{Contains-append_cases}
use Rattle.external_dependencies.specs.declared.links.Link.{Link}
use Rattle.plan_store_lists.specs.Blocks.{items_in}
use Rattle.plan_store_lists.proofs.RunLemmas.{items_more}
use Rattle.plan_store_pairs.proofs.ListLemmas.{none}
use Rattle.plan_store_pairs.proofs.touches.lists_beside.Goals as goal

-- none so far
pub loop-block-init : goal.loop-block-init
loop-block-init c link there = absurd (none link there)

-- one more block
pub loop-block-preserved : goal.loop-block-preserved
loop-block-preserved c link there =
    let blocks = c.blocks-block-items.result.now in
    let block = c.block-item.result in
    let index = c.loop-block.block-index in
    let so_far = items_in (take index blocks) in
    let among : Contains (so_far ++ block.items.items) link = subst (λ xs. Contains xs link)
    (items_more blocks index block c.loop-block-test.true c.block-item.is) there in
    elim (Contains-append_cases so_far block.items.items link among) [
      | inl old ↦ elim (c.loop-block.invariant link old) [
        | inl stays ↦ inl stays
        | inr named ↦ inr (c.in_ok-push_beside.ensures.stay link.app named)
      ]
      | inr own ↦ c.in_ok-push_beside.ensures.told link (subst (λ xs. Contains xs link) (sym c.items.ensures) own)
    ]

-- all blocks
pub returns : goal.returns
returns c =
    let blocks = c.blocks-block-items.result.now in
    subst (λ xs. (link : Link) → Contains xs link
    → Contains c.args.others.now.items link ⊎ Contains c.loop-block.apps.items link.app)
    (ap (λ bs. items_in bs) (take_all c.loop-block.block-index blocks (omega arith)) ∙ c.blocks-block-items.ensures)
    c.loop-block.invariant
