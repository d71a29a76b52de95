use Rattle.std.proofs.Common.{◌≡◌, ◌+◌, ◌<◌, ◌++◌, ◌∙◌, length, take, drop, refl, sym, rules, arith, ap, length-append, take-append-drop}
use Rattle.plan_store_lists.specs.Blocks.{items_in}
use Rattle.plan_store_lists.proofs.BlockLemmas.{items_append}
use Rattle.plan_store_lists.proofs.RunLemmas.{items_more}
use Rattle.plan_store_lists.proofs.blocks.Blocks.has_more_than.Goals as goal

pub loop-block-preserved : goal.loop-block-preserved
loop-block-preserved g c =
    let block = c.block-item.result in
    let blocks = c.args.self.now.blocks.items in
    let i = c.loop-block.block-index in
    let lt : i < length blocks = search rules in
    let more : items_in (take (i + 1) blocks) ≡ items_in (take i blocks) ++ block.items.items =
    items_more blocks i block lt (search rules) in
    omega (
      arith,
      ap length more,
      length-append (items_in (take i blocks)) block.items.items,
      c.loop-block.invariant,
      c.len-count.ensures,
      c.if-left-count.false,
    )

pub returns-then-left-count : goal.returns-then-left-count
returns-then-left-count g c =
    let block = c.block-item.result in
    let blocks = c.args.self.now.blocks.items in
    let i = c.loop-block.block-index in
    let lt : i < length blocks = search rules in
    let more : items_in (take (i + 1) blocks) ≡ items_in (take i blocks) ++ block.items.items =
    items_more blocks i block lt (search rules) in
    let front = take (i + 1) blocks in
    let back = drop (i + 1) blocks in
    let whole : items_in blocks ≡ items_in front ++ items_in back =
    ap items_in (sym (take-append-drop (i + 1) blocks)) ∙ items_append front back in
    let long : c.args.most < length (items_in blocks) =
    omega (
      arith,
      ap length whole,
      length-append (items_in front) (items_in back),
      ap length more,
      length-append (items_in (take i blocks)) block.items.items,
      c.loop-block.invariant,
      c.len-count.ensures,
      c.if-left-count.true,
    ) in (
      (λ _. long),
      λ _. refl,
    )
