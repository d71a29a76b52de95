use Rattle.std.proofs.Common.{◌≡◌, ◌≢◌, ◌↔◌, ◌∙◌, ◌⊎◌, refl, set, sym, ap, subst}
use Rattle.std.specs.List.{Contains}
use Rattle.plan_store_lists.specs.Blocks.{items_in}
use Rattle.plan_store_lists.specs.declared.blocks.Block.{Block}
use Rattle.plan_store_lists.proofs.KeyLemmas.{missed_all}
use Rattle.plan_store_lists.proofs.BlockLemmas.{set_blocks, set_items}
use Rattle.plan_store_lists.proofs.blocks.put_group.Goals as goal

pub returns-in-Ok-clause-blocks : goal.returns-in-Ok-clause-blocks
returns-in-Ok-clause-blocks g c =
    let bs = c.args.list.now.blocks.items in
    let taken = rw c.deref.ensures.value at c.in-Ok.ensures.taken in
    let was = c.index_mut.result.now in
    let item : Block g.row.T-Group.Denot g.row.T.Denot = record { group = was.group; items = c.args.items } in
    let own : was.group ≡ c.args.group.now = ap (λ (b : Block g.row.T-Group.Denot g.row.T.Denot). b.group)
    c.index_mut.ensures.value ∙ taken.1 was in
    set_blocks g.met.T.Group.Ord.total g.met.T.Grouped.group_ties g.T.Key.Ord.cmp g.T.Grouped.group_of
    g.T.Keyed.key_of bs c.requires.blocks c.in-Ok.at taken.0 was c.index_mut.ensures.value item refl c.requires.sorted
    (λ x there. c.requires.one x there ∙ sym own)

pub returns-in-Ok-clause-replaced : goal.returns-in-Ok-clause-replaced
returns-in-Ok-clause-replaced g c x =
    let bs = c.args.list.now.blocks.items in
    let group_of = g.T.Grouped.group_of in
    let taken = rw c.deref.ensures.value at c.in-Ok.ensures.taken in
    let was = c.index_mut.result.now in
    let item : Block g.row.T-Group.Denot g.row.T.Denot = record { group = was.group; items = c.args.items } in
    let own : was.group ≡ c.args.group.now = ap (λ (b : Block g.row.T-Group.Denot g.row.T.Denot). b.group)
    c.index_mut.ensures.value ∙ taken.1 was in
    subst (λ (group : g.row.T-Group.Denot). Contains (items_in (set bs c.in-Ok.at item)) x
    ↔ (Contains c.args.items.items x ⊎ (Contains (items_in bs) x × (group_of x ≢ group)))) own
    (set_items g.met.T.Group.Ord.total g.met.T.Grouped.group_ties g.T.Key.Ord.cmp group_of g.T.Keyed.key_of bs
    c.requires.blocks c.in-Ok.at taken.0 was c.index_mut.ensures.value item refl x)

pub returns-in-Err-clause-replaced : goal.returns-in-Err-clause-replaced
returns-in-Err-clause-replaced g c x =
    let free = (rw c.deref.ensures.value at c.in-Err.ensures.free) c.requires.blocks.rise in
    let room = c.requires.room in
    absurd (missed_all g.met.T.Group.Ord.total g.met.T.Grouped.group_ties
    (λ (b : Block g.row.T-Group.Denot g.row.T.Denot). b.group) c.args.list.now.blocks.items c.args.group.now
    c.in-Err._at free.1 room.0 room.1 room.2)
