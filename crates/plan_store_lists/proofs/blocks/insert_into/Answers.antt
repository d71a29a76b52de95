use Rattle.std.proofs.Common.{◌≡◌, ◌-◌, length, take, drop, arith}
use Rattle.std.proofs.lemmas.List.{length-drop, take_all, take_rest}
use Rattle.plan_store_lists.specs.Blocks.{items_of}
use Rattle.plan_store_lists.proofs.RunLemmas.{inserted_more, room_for_run, room_stays, run_new}
use Rattle.plan_store_lists.proofs.blocks.insert_into.Goals as goal

pub insert_run-requires-clause-new : goal.insert_run-requires-clause-new
insert_run-requires-clause-new g c =
    let xs = c.args.items.now in
    let start = c.loop-start.start in
    let whole : take (length xs - start) (drop start xs) ≡ drop start xs = take_rest xs start in
    let front = rw whole at c.front_group-run.ensures.front in
    run_new xs c.front_group-run.result.now start front g.met.T.Key.Ord.total g.met.T.Keyed.ties g.T.Keyed.key_of
    c.requires.sorted c.loop-start.invariant.within (items_of c.args.list.now) (items_of c.loop-start.list)
    c.requires.new c.loop-start.invariant.inserted

pub insert_run-requires-clause-room : goal.insert_run-requires-clause-room
insert_run-requires-clause-room g c =
    let xs = c.args.items.now in
    let start = c.loop-start.start in
    let whole : take (length xs - start) (drop start xs) ≡ drop start xs = take_rest xs start in
    let front = rw whole at c.front_group-run.ensures.front in
    let others = rw whole at c.front_group-run.ensures.rest in
    room_for_run xs c.front_group-run.result.now start front g.met.T.Group.Ord.total g.met.T.Grouped.group_ties
    g.T.Grouped.group_of c.front_group-run.ensures.one others c.loop-start.list.blocks.items
    c.loop-start.invariant.room

pub loop-start-preserved : goal.loop-start-preserved
loop-start-preserved g c =
    let xs = c.args.items.now in
    let start = c.loop-start.start in
    let run = c.front_group-run.result.now in
    let now = c.loop-start.list in
    let after = c.insert_run.new.list in
    let whole : take (length xs - start) (drop start xs) ≡ drop start xs = take_rest xs start in
    let front = rw whole at c.front_group-run.ensures.front in
    let within = rw whole at c.front_group-run.ensures.within in
    let others = rw whole at c.front_group-run.ensures.rest in
    record {
      within = omega (arith, c.loop-start.invariant.within, within, length-drop start xs);
      blocks = c.insert_run.ensures.blocks;
      inserted = inserted_more xs run start front g.T.Keyed.key_of (items_of c.args.list.now) (items_of now)
          (items_of after) c.loop-start.invariant.inserted c.insert_run.ensures.inserted;
      room = room_stays xs run start front g.met.T.Group.Ord.total g.met.T.Grouped.group_ties g.T.Grouped.group_of
          c.front_group-run.ensures.one others now.blocks.items after.blocks.items c.front_group-run.ensures.some
          c.loop-start.invariant.room c.insert_run.ensures.stays;
    }

pub returns-clause-inserted : goal.returns-clause-inserted
returns-clause-inserted g c =
    let whole : take c.loop-start.start c.args.items.now ≡ c.args.items.now = take_all c.loop-start.start
    c.args.items.now (omega arith) in
    rw whole at c.loop-start.invariant.inserted
