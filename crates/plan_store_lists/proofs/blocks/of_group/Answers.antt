use Rattle.plan_store_lists.proofs.KeyLemmas.{missed_all, nothing}
use Rattle.plan_store_lists.proofs.BlockLemmas.{group_items_at, no_items}
use Rattle.plan_store_lists.specs.declared.blocks.Block.{Block}
use Rattle.plan_store_lists.proofs.blocks.of_group.Goals as goal

pub returns-in-Ok-clause-all : goal.returns-in-Ok-clause-all
returns-in-Ok-clause-all g c x =
    let taken = rw c.deref.ensures.value at c.in-Ok.ensures.taken in
    rw c.as_slice.ensures.value (group_items_at g.met.T.Group.Ord.total g.met.T.Grouped.group_ties g.T.Key.Ord.cmp
    g.T.Grouped.group_of g.T.Keyed.key_of c.args.list.now.blocks.items c.requires c.in-Ok.at c.index.result.now
    c.args.group.now taken.0 c.index.ensures taken.1 x)

pub returns-in-Err-clause-all : goal.returns-in-Err-clause-all
returns-in-Err-clause-all g c x =
    let total = g.met.T.Group.Ord.total in
    let ties = g.met.T.Grouped.group_ties in
    let blocks = c.args.list.now.blocks.items in
    let free = (rw c.deref.ensures.value at c.in-Err.ensures.free) c.requires.rise in
    let lacks = missed_all total ties (λ (b : Block g.row.T-Group.Denot g.row.T.Denot). b.group) blocks
    c.args.group.now c.in-Err._at free.1 in (
      λ there. absurd (nothing x there),
      λ both. absurd (no_items total ties g.T.Key.Ord.cmp g.T.Grouped.group_of g.T.Keyed.key_of blocks c.requires
          c.args.group.now lacks x both.0 both.1),
    )
