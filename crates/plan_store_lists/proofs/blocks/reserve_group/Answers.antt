use Rattle.std.proofs.Common.{◌+◌, ◌≤◌, refl, inr, arith, vec_len, vec_capacity, OnOk, Result, Ok, Err}
use Rattle.plan_store_lists.proofs.BlockLemmas.{Opened, opened_taken, opened_new, grown_rise, grown_same, grown_blocks}
use Rattle.plan_store_lists.proofs.BlockLemmas.{grown_stays, grown_room}
use Rattle.plan_store_lists.specs.declared.blocks.Block.{Block}
use Rattle.plan_store_lists.proofs.blocks.reserve_group.Given.{Over}
use Rattle.plan_store_lists.proofs.blocks.reserve_group.Goals as goal
use Rattle.plan_store_lists.proofs.blocks.reserve_group.Goals.{in-Ok, in-Err+in_ok-insert-in-Err}

pub returns-in_err-insert-in-Err-clause-blocks : goal.returns-in_err-insert-in-Err-clause-blocks
returns-in_err-insert-in-Err-clause-blocks g c block there =
    inr (block, (rw c.in_err-insert-in-Err.ensures.items at there), refl, refl)

pub returns-in_err-insert-in-Err-clause-stays : goal.returns-in_err-insert-in-Err-clause-stays
returns-in_err-insert-in-Err-clause-stays g c other count room = rw c.in_err-insert-in-Err.ensures.items room

opened : (g : Over) (c : goal.After-list-1 g) → Opened {X = g.row.T.Denot} g.G.Ord.cmp c.args.group.now
    c.args.list.now.blocks.items c.match-place_of.list.blocks.items c.match-place_of.at
opened g c =
    let bs = c.args.list.now.blocks.items in
    elim c.match-place_of.branch [
      | in-Ok w ↦
          let taken = rw c.deref.ensures.value at w.in-Ok.ensures.taken in
          rw (w.list-is, w.at-is) (opened_taken g.met.G.Ord.total c.requires.ties c.args.group.now bs w.in-Ok.at
          c.requires.rise taken.0 taken.1)
      | in-Err+in_ok-insert-in-Err w ↦
          let free = (rw c.deref.ensures.value at w.in-Err.ensures.free) c.requires.rise in
          let item : Block g.row.G.Denot g.row.T.Denot = record { group = c.args.group.now; items = w.new.result } in
          rw (w.list-is, w.at-is, w.in_ok-insert-in-Err.ensures.items) (opened_new g.met.G.Ord.total c.requires.ties bs
          w.in-Err.at item c.requires.rise free.0 free.1 w.new.ensures.items)
    ]

-- a promise for success, carried on
on_ok : {A E : Type 0} {P Q : Type 0} → (P → Q) → (r : Result A E) → OnOk r P → OnOk r Q
on_ok f (Ok x) holds = f holds
on_ok f (Err x) holds = tt

pub returns-clause-rise : goal.returns-clause-rise
returns-clause-rise g c =
    let item : Block g.row.G.Denot g.row.T.Denot = record {
      group = c.index_mut.result.now.group;
      items = c.grow.new.list;
    } in
    grown_rise g.met.G.Ord.total c.requires.ties c.args.group.now c.args.list.now.blocks.items
    c.match-place_of.list.blocks.items c.match-place_of.at (opened g c) c.index_mut.result.now
    c.index_mut.ensures.value item refl c.grow.ensures.items

pub returns-clause-same : goal.returns-clause-same
returns-clause-same g c =
    let item : Block g.row.G.Denot g.row.T.Denot = record {
      group = c.index_mut.result.now.group;
      items = c.grow.new.list;
    } in
    grown_same g.met.G.Ord.total c.requires.ties c.args.group.now c.args.list.now.blocks.items
    c.match-place_of.list.blocks.items c.match-place_of.at (opened g c) c.index_mut.result.now
    c.index_mut.ensures.value item refl c.grow.ensures.items

pub returns-clause-blocks : goal.returns-clause-blocks
returns-clause-blocks g c =
    let item : Block g.row.G.Denot g.row.T.Denot = record {
      group = c.index_mut.result.now.group;
      items = c.grow.new.list;
    } in
    grown_blocks g.met.G.Ord.total c.requires.ties c.args.group.now c.args.list.now.blocks.items
    c.match-place_of.list.blocks.items c.match-place_of.at (opened g c) c.index_mut.result.now
    c.index_mut.ensures.value item refl c.grow.ensures.items

pub returns-clause-stays : goal.returns-clause-stays
returns-clause-stays g c =
    let item : Block g.row.G.Denot g.row.T.Denot = record {
      group = c.index_mut.result.now.group;
      items = c.grow.new.list;
    } in
    grown_stays g.met.G.Ord.total c.requires.ties c.args.group.now c.args.list.now.blocks.items
    c.match-place_of.list.blocks.items c.match-place_of.at (opened g c) c.index_mut.result.now
    c.index_mut.ensures.value item refl c.grow.ensures.items c.grow.ensures.capacity

pub returns-clause-room : goal.returns-clause-room
returns-clause-room g c =
    let item : Block g.row.G.Denot g.row.T.Denot = record {
      group = c.index_mut.result.now.group;
      items = c.grow.new.list;
    } in
    let long = item.items.ok.0 in
    on_ok (λ (room : vec_len item.items + c.args.more ≤ vec_capacity item.items).
    grown_room g.met.G.Ord.total c.requires.ties c.args.group.now c.args.list.now.blocks.items
    c.match-place_of.list.blocks.items c.match-place_of.at (opened g c) c.index_mut.result.now
    c.index_mut.ensures.value item refl c.grow.ensures.items c.args.more (omega arith))
    c.grow.result c.grow.ensures.room
