use Rattle.std.proofs.Common.{◌≡◌, ◌∙◌, refl, sym, ap, arith}
use Rattle.plan_store_lists.proofs.KeyLemmas.{missed_all}
use Rattle.plan_store_lists.proofs.BlockLemmas.{group_items_at, keys_stand, no_items, one_group, replaced_blocks}
use Rattle.plan_store_lists.proofs.BlockLemmas.{replaced_items, set_room}
use Rattle.plan_store_lists.specs.declared.blocks.Block.{Block}
use Rattle.plan_store_lists.proofs.blocks.replace_one_in.Goals as goal

pub replace_one-requires-clause-stands : goal.replace_one-requires-clause-stands
replace_one-requires-clause-stands g c =
    let total = g.met.T.Group.Ord.total in
    let ties = g.met.T.Grouped.group_ties in
    let group_of = g.T.Grouped.group_of in
    let key = g.T.Keyed.key_of in
    let bs = c.args.list.now.blocks.items in
    let taken = rw (c.deref.ensures.value, c.group.ensures) at c.in-Ok.ensures.taken in
    let was = c.index_mut.result.now in
    let (x, there, same) = c.requires.stands in (
      x,
      (group_items_at total ties g.T.Key.Ord.cmp group_of key bs c.requires.blocks c.in-Ok.at was
          (group_of c.args.item) taken.0 c.index_mut.ensures.value taken.1 x).1 (
            there,
            one_group total ties g.T.Key.Ord.cmp group_of key g.met.T.Key.Ord.total g.met.T.Grouped.rises x c.args.item same,
          ),
      same,
    )

pub returns-in-Ok-clause-blocks : goal.returns-in-Ok-clause-blocks
returns-in-Ok-clause-blocks g c =
    let total = g.met.T.Group.Ord.total in
    let ties = g.met.T.Grouped.group_ties in
    let cmp = g.T.Key.Ord.cmp in
    let group_of = g.T.Grouped.group_of in
    let key = g.T.Keyed.key_of in
    let bs = c.args.list.now.blocks.items in
    let taken = rw (c.deref.ensures.value, c.group.ensures) at c.in-Ok.ensures.taken in
    let new = c.args.item in
    let was = c.index_mut.result.now in
    let item : Block g.row.T-Group.Denot g.row.T.Denot = record { group = was.group; items = c.replace_one.new.list } in
    let own : was.group ≡ group_of new = ap (λ (b : Block g.row.T-Group.Denot g.row.T.Denot). b.group)
    c.index_mut.ensures.value ∙ taken.1 was in
    replaced_blocks total ties cmp group_of key bs c.requires.blocks c.in-Ok.at taken.0 was c.index_mut.ensures.value
    item refl new (sym own)
    (λ x same. one_group total ties cmp group_of key g.met.T.Key.Ord.total g.met.T.Grouped.rises x new same)
    c.replace_one.ensures.replaced c.replace_one.ensures.keyed

pub returns-in-Ok-clause-stand : goal.returns-in-Ok-clause-stand
returns-in-Ok-clause-stand g c =
    let bs = c.args.list.now.blocks.items in
    let taken = rw (c.deref.ensures.value, c.group.ensures) at c.in-Ok.ensures.taken in
    let was = c.index_mut.result.now in
    let item : Block g.row.T-Group.Denot g.row.T.Denot = record { group = was.group; items = c.replace_one.new.list } in
    keys_stand g.met.T.Group.Ord.total g.met.T.Grouped.group_ties g.T.Key.Ord.cmp g.T.Grouped.group_of
    g.T.Keyed.key_of bs c.requires.blocks c.in-Ok.at taken.0 was c.index_mut.ensures.value item refl
    c.replace_one.ensures.stand

pub returns-in-Ok-clause-replaced : goal.returns-in-Ok-clause-replaced
returns-in-Ok-clause-replaced g c =
    let total = g.met.T.Group.Ord.total in
    let ties = g.met.T.Grouped.group_ties in
    let cmp = g.T.Key.Ord.cmp in
    let group_of = g.T.Grouped.group_of in
    let key = g.T.Keyed.key_of in
    let bs = c.args.list.now.blocks.items in
    let taken = rw (c.deref.ensures.value, c.group.ensures) at c.in-Ok.ensures.taken in
    let new = c.args.item in
    let was = c.index_mut.result.now in
    let item : Block g.row.T-Group.Denot g.row.T.Denot = record { group = was.group; items = c.replace_one.new.list } in
    let own : was.group ≡ group_of new = ap (λ (b : Block g.row.T-Group.Denot g.row.T.Denot). b.group)
    c.index_mut.ensures.value ∙ taken.1 was in
    replaced_items total ties cmp group_of key bs c.requires.blocks c.in-Ok.at taken.0 was c.index_mut.ensures.value
    item refl new (sym own)
    (λ x same. one_group total ties cmp group_of key g.met.T.Key.Ord.total g.met.T.Grouped.rises x new same)
    c.replace_one.ensures.replaced

pub returns-in-Ok-clause-stays : goal.returns-in-Ok-clause-stays
returns-in-Ok-clause-stays g c group count room =
    let bs = c.args.list.now.blocks.items in
    let taken = rw c.deref.ensures.value at c.in-Ok.ensures.taken in
    let was = c.index_mut.result.now in
    let item : Block g.row.T-Group.Denot g.row.T.Denot = record { group = was.group; items = c.replace_one.new.list } in
    let long = c.replace_one.ensures.length in
    let capacity = c.replace_one.ensures.capacity in
    set_room bs c.in-Ok.at taken.0 was c.index_mut.ensures.value item refl group count (λ _ fits. omega arith) room

pub returns-in-Err-clause-replaced : goal.returns-in-Err-clause-replaced
returns-in-Err-clause-replaced g c =
    let total = g.met.T.Group.Ord.total in
    let ties = g.met.T.Grouped.group_ties in
    let cmp = g.T.Key.Ord.cmp in
    let group_of = g.T.Grouped.group_of in
    let key = g.T.Keyed.key_of in
    let bs = c.args.list.now.blocks.items in
    let free = (rw (c.deref.ensures.value, c.group.ensures) at c.in-Err.ensures.free) c.requires.blocks.rise in
    let new = c.args.item in
    let (y, there, same) = c.requires.stands in
    absurd (no_items total ties cmp group_of key bs c.requires.blocks (group_of new)
    (missed_all total ties (λ (b : Block g.row.T-Group.Denot g.row.T.Denot). b.group) bs (group_of new) c.in-Err._at
    free.1) y there (one_group total ties cmp group_of key g.met.T.Key.Ord.total g.met.T.Grouped.rises y new same))
