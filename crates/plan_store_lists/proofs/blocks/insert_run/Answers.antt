use Rattle.std.proofs.Common.{◌≡◌, ◌∙◌, length, refl, sym, ap, arith}
use Rattle.plan_store_lists.proofs.KeyLemmas.{missed_all}
use Rattle.plan_store_lists.proofs.BlockLemmas.{room_of, inserted_blocks, inserted_items, contains_items, set_room}
use Rattle.plan_store_lists.specs.declared.blocks.Block.{Block}
use Rattle.plan_store_lists.proofs.blocks.insert_run.Goals as goal

pub insert_all-requires-clause-new : goal.insert_all-requires-clause-new
insert_all-requires-clause-new g c x in_run y there =
    let bs = c.args.list.now.blocks.items in
    let taken = rw (c.deref.ensures.value, c.group.ensures) at c.in-Ok.ensures.taken in
    c.requires.new x in_run y ((contains_items bs y).1
    (c.index_mut.result.now, (c.in-Ok.at, taken.0, sym c.index_mut.ensures.value), there))

pub insert_all-requires-clause-room : goal.insert_all-requires-clause-room
insert_all-requires-clause-room g c =
    let bs = c.args.list.now.blocks.items in
    let taken = rw (c.deref.ensures.value, c.group.ensures) at c.in-Ok.ensures.taken in
    let p = c.index-run-0.result in
    let room = room_of g.met.T.Group.Ord.total g.met.T.Grouped.group_ties bs c.requires.blocks.rise
    c.in-Ok.at c.index_mut.result.now (g.T.Grouped.group_of p) (length c.args.run.now) taken.0
    c.index_mut.ensures.value taken.1 (c.requires.room p (0, c.requires.some, sym c.index-run-0.is)) in
    let long = c.index_mut.result.now.items.ok in
    omega arith

pub returns-in-Ok-clause-blocks : goal.returns-in-Ok-clause-blocks
returns-in-Ok-clause-blocks g c =
    let bs = c.args.list.now.blocks.items in
    let run = c.args.run.now in
    let group_of = g.T.Grouped.group_of in
    let taken = rw (c.deref.ensures.value, c.group.ensures) at c.in-Ok.ensures.taken in
    let p = c.index-run-0.result in
    let was = c.index_mut.result.now in
    let item : Block g.row.T-Group.Denot g.row.T.Denot = record { group = was.group; items = c.insert_all.new.list } in
    let own : was.group ≡ group_of p = ap (λ (b : Block g.row.T-Group.Denot g.row.T.Denot). b.group)
    c.index_mut.ensures.value ∙ taken.1 was in
    inserted_blocks g.met.T.Group.Ord.total g.met.T.Grouped.group_ties g.T.Key.Ord.cmp group_of g.T.Keyed.key_of bs
    c.requires.blocks c.in-Ok.at taken.0 was c.index_mut.ensures.value item refl run
    (λ x there. c.requires.one x p there (0, c.requires.some, sym c.index-run-0.is) ∙ sym own)
    c.insert_all.ensures.inserted c.insert_all.ensures.keyed

pub returns-in-Ok-clause-inserted : goal.returns-in-Ok-clause-inserted
returns-in-Ok-clause-inserted g c x =
    let bs = c.args.list.now.blocks.items in
    let run = c.args.run.now in
    let group_of = g.T.Grouped.group_of in
    let taken = rw (c.deref.ensures.value, c.group.ensures) at c.in-Ok.ensures.taken in
    let p = c.index-run-0.result in
    let was = c.index_mut.result.now in
    let item : Block g.row.T-Group.Denot g.row.T.Denot = record { group = was.group; items = c.insert_all.new.list } in
    let own : was.group ≡ group_of p = ap (λ (b : Block g.row.T-Group.Denot g.row.T.Denot). b.group)
    c.index_mut.ensures.value ∙ taken.1 was in
    inserted_items g.met.T.Group.Ord.total g.met.T.Grouped.group_ties g.T.Key.Ord.cmp group_of g.T.Keyed.key_of bs
    c.requires.blocks c.in-Ok.at taken.0 was c.index_mut.ensures.value item refl run
    (λ x there. c.requires.one x p there (0, c.requires.some, sym c.index-run-0.is) ∙ sym own)
    c.insert_all.ensures.inserted x

pub returns-in-Ok-clause-stays : goal.returns-in-Ok-clause-stays
returns-in-Ok-clause-stays g c x group count in_run apart room =
    let bs = c.args.list.now.blocks.items in
    let group_of = g.T.Grouped.group_of in
    let taken = rw (c.deref.ensures.value, c.group.ensures) at c.in-Ok.ensures.taken in
    let p = c.index-run-0.result in
    let was = c.index_mut.result.now in
    let item : Block g.row.T-Group.Denot g.row.T.Denot = record { group = was.group; items = c.insert_all.new.list } in
    let own : was.group ≡ group_of p = ap (λ (b : Block g.row.T-Group.Denot g.row.T.Denot). b.group)
    c.index_mut.ensures.value ∙ taken.1 was in
    set_room bs c.in-Ok.at taken.0 was c.index_mut.ensures.value item refl group count (λ same _. absurd (apart
    (c.requires.one x p in_run (0, c.requires.some, sym c.index-run-0.is) ∙ sym own ∙ sym same))) room

pub returns-in-Err-clause-inserted : goal.returns-in-Err-clause-inserted
returns-in-Err-clause-inserted g c x =
    let free = (rw (c.deref.ensures.value, c.group.ensures) at c.in-Err.ensures.free) c.requires.blocks.rise in
    let p = c.index-run-0.result in
    let room = c.requires.room p (0, c.requires.some, sym c.index-run-0.is) in
    absurd (missed_all g.met.T.Group.Ord.total g.met.T.Grouped.group_ties
    (λ (b : Block g.row.T-Group.Denot g.row.T.Denot). b.group) c.args.list.now.blocks.items (g.T.Grouped.group_of p)
    c.in-Err._at free.1 room.0 room.1 room.2)
