use Rattle.std.proofs.Common.{◌≡◌, ◌≢◌, ◌↔◌, ◌∙◌, Bool, true, false, not, List, take, take_all, ap, arith, refl, subst, sym}
use Rattle.std.specs.List.{Contains}
use Rattle.std.proofs.lemmas.Bool.{false≢true}
use Rattle.external_dependencies.specs.declared.links.Link.{Link}
use Rattle.external_dependencies.proofs.NearestLemmas.{names_differ, names_equal}
use Rattle.plan_store_lists.specs.Blocks.{items_in}
use Rattle.plan_store_lists.specs.LinkBlocks.{AreLinkBlocks, LinkList}
use Rattle.plan_store_lists.proofs.LinkBlockLemmas.{others_more, others_same}
use Rattle.plan_store_lists.proofs.link_blocks.LinkBlocks.others.Goals as goal
use Rattle.plan_store_lists.proofs.link_blocks.LinkBlocks.others.Goals.{then-ne+in_ok-extend_from_slice, else-ne}

is_false : (b : Bool) → not b ≡ true → b ≡ false
is_false true is = absurd (false≢true is)
is_false false is = refl

is_true : (b : Bool) → not b ≡ false → b ≡ true
is_true true is = refl
is_true false is = absurd (false≢true (sym is))

pub loop-block-preserved : goal.loop-block-preserved
loop-block-preserved c =
    let app = c.args.app.now in
    let blocks = c.blocks-block-items.result.now in
    let are : AreLinkBlocks blocks = subst AreLinkBlocks (sym c.blocks-block-items.ensures) c.self.invariant.links in
    let i = c.loop-block.block-index in
    let block = c.block-item.result in
    let found = c.loop-block.found.items in
    elim c.if-ne.branch [
      | then-ne+in_ok-extend_from_slice w ↦
          let apart : block.group ≢ app = names_differ block.group app
          (is_false _ (sym c.ne.ensures ∙ w.if-ne.true)) in
          rw (w.found-is, w.in_ok-extend_from_slice.ensures.items, w.deref.ensures.value)
          (others_more app blocks are i block c.loop-block-test.true c.block-item.is found c.loop-block.invariant
          apart)
      | else-ne w ↦
          let same : block.group ≡ app = names_equal block.group app
          (is_true _ (sym c.ne.ensures ∙ w.if-ne.false)) in
          rw w.found-is (others_same app blocks are i block c.loop-block-test.true c.block-item.is found
          c.loop-block.invariant same)
    ]

pub returns : goal.returns
returns c =
    let blocks = c.blocks-block-items.result.now in
    let whole : take c.loop-block.block-index blocks ≡ blocks = take_all c.loop-block.block-index blocks
    (omega arith) in
    let all : items_in (take c.loop-block.block-index blocks) ≡ c.args.self.now.items = ap items_in whole
    ∙ ap items_in c.blocks-block-items.ensures ∙ ap (λ (v : LinkList). v.items) c.self.view_is in
    λ link. subst (λ (l : List Link). Contains c.loop-block.found.items link
    ↔ (Contains l link × (link.app ≢ c.args.app.now))) all (c.loop-block.invariant link)
