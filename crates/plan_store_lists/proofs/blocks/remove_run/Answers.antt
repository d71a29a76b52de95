use Rattle.std.proofs.Common.{◌≡◌, ◌∙◌, refl, sym, ap, arith}
use Rattle.plan_store_lists.proofs.KeyLemmas.{missed_all}
use Rattle.plan_store_lists.proofs.BlockLemmas.{removed_blocks, removed_items, no_items, one_group, set_room}
use Rattle.plan_store_lists.specs.declared.blocks.Block.{Block}
use Rattle.plan_store_lists.proofs.blocks.remove_run.Goals as goal

pub returns-in-Ok-clause-blocks : goal.returns-in-Ok-clause-blocks
returns-in-Ok-clause-blocks g c =
    let total = g.met.T.Group.Ord.total in
    let ties = g.met.T.Grouped.group_ties in
    let cmp = g.T.Key.Ord.cmp in
    let key = g.T.Keyed.key_of in
    let bs = c.args.list.now.blocks.items in
    let run = c.args.run.now in
    let group_of = g.T.Grouped.group_of in
    let taken = rw (c.deref.ensures.value, c.group.ensures) at c.in-Ok.ensures.taken in
    let p = c.index-run-0.result in
    let was = c.index_mut.result.now in
    let item : Block g.row.T-Group.Denot g.row.T.Denot = record { group = was.group; items = c.remove_all.new.list } in
    let own : was.group ≡ group_of p = ap (λ (b : Block g.row.T-Group.Denot g.row.T.Denot). b.group)
    c.index_mut.ensures.value ∙ taken.1 was in
    removed_blocks total ties cmp group_of key bs c.requires.blocks c.in-Ok.at taken.0 was c.index_mut.ensures.value
    item refl run
    (λ x y there same. one_group total ties cmp group_of key g.met.T.Key.Ord.total g.met.T.Grouped.rises x y (sym same)
    ∙ c.requires.one y p there (0, c.requires.some, sym c.index-run-0.is) ∙ sym own)
    c.remove_all.ensures.removed c.remove_all.ensures.keyed

pub returns-in-Ok-clause-removed : goal.returns-in-Ok-clause-removed
returns-in-Ok-clause-removed g c x =
    let total = g.met.T.Group.Ord.total in
    let ties = g.met.T.Grouped.group_ties in
    let cmp = g.T.Key.Ord.cmp in
    let key = g.T.Keyed.key_of in
    let bs = c.args.list.now.blocks.items in
    let run = c.args.run.now in
    let group_of = g.T.Grouped.group_of in
    let taken = rw (c.deref.ensures.value, c.group.ensures) at c.in-Ok.ensures.taken in
    let p = c.index-run-0.result in
    let was = c.index_mut.result.now in
    let item : Block g.row.T-Group.Denot g.row.T.Denot = record { group = was.group; items = c.remove_all.new.list } in
    let own : was.group ≡ group_of p = ap (λ (b : Block g.row.T-Group.Denot g.row.T.Denot). b.group)
    c.index_mut.ensures.value ∙ taken.1 was in
    removed_items total ties cmp group_of key bs c.requires.blocks c.in-Ok.at taken.0 was c.index_mut.ensures.value
    item refl run
    (λ x y there same. one_group total ties cmp group_of key g.met.T.Key.Ord.total g.met.T.Grouped.rises x y (sym same)
    ∙ c.requires.one y p there (0, c.requires.some, sym c.index-run-0.is) ∙ sym own)
    c.remove_all.ensures.removed x

pub returns-in-Ok-clause-stays : goal.returns-in-Ok-clause-stays
returns-in-Ok-clause-stays g c group count room =
    let bs = c.args.list.now.blocks.items in
    let taken = rw c.deref.ensures.value at c.in-Ok.ensures.taken in
    let was = c.index_mut.result.now in
    let item : Block g.row.T-Group.Denot g.row.T.Denot = record { group = was.group; items = c.remove_all.new.list } in
    let shorter = c.remove_all.ensures.length in
    let capacity = c.remove_all.ensures.capacity in
    set_room bs c.in-Ok.at taken.0 was c.index_mut.ensures.value item refl group count (λ _ fits. omega arith) room

pub returns-in-Err-clause-removed : goal.returns-in-Err-clause-removed
returns-in-Err-clause-removed g c x =
    let total = g.met.T.Group.Ord.total in
    let ties = g.met.T.Grouped.group_ties in
    let cmp = g.T.Key.Ord.cmp in
    let key = g.T.Keyed.key_of in
    let group_of = g.T.Grouped.group_of in
    let bs = c.args.list.now.blocks.items in
    let free = (rw (c.deref.ensures.value, c.group.ensures) at c.in-Err.ensures.free) c.requires.blocks.rise in
    let p = c.index-run-0.result in
    let lacks = missed_all total ties (λ (b : Block g.row.T-Group.Denot g.row.T.Denot). b.group) bs (group_of p)
    c.in-Err._at free.1 in (
      λ there. (
        there,
        λ y in_run same. no_items total ties cmp group_of key bs c.requires.blocks (group_of p) lacks x there
            (one_group total ties cmp group_of key g.met.T.Key.Ord.total g.met.T.Grouped.rises x y (sym same)
            ∙ c.requires.one y p in_run (0, c.requires.some, sym c.index-run-0.is)),
      ),
      λ both. both.0,
    )
