use Rattle.std.proofs.Common.{◌≡◌, ◌-◌, ◌∙◌, length, take, drop, arith, sym}
use Rattle.std.proofs.lemmas.List.{length-drop, take_all, take_rest}
use Rattle.std.specs.List.{Contains}
use Rattle.plan_store_lists.specs.Blocks.{HasRoomAt}
use Rattle.plan_store_lists.proofs.RunLemmas.{apart_more, blocks_stay, room_more}
use Rattle.plan_store_lists.proofs.blocks.reserve_for.Goals as goal

pub returns-in_err-reserve_group-clause-blocks : goal.returns-in_err-reserve_group-clause-blocks
returns-in_err-reserve_group-clause-blocks g c =
    blocks_stay g.T.Group.Ord.cmp g.T.Key.Ord.cmp g.T.Grouped.group_of g.T.Keyed.key_of
    c.loop-start.list.blocks.items c.reserve_group.new.list.blocks.items c.loop-start.invariant.blocks
    c.reserve_group.ensures.rise c.reserve_group.ensures.blocks

pub loop-start-preserved : goal.loop-start-preserved
loop-start-preserved g c =
    let xs = c.args.items.now in
    let start = c.loop-start.start in
    let run = c.front_group-run.result.now in
    let first = c.index-run-0.result in
    let now = c.loop-start.list.blocks.items in
    let after = c.reserve_group.new.list.blocks.items in
    let whole : take (length xs - start) (drop start xs) ≡ drop start xs = take_rest xs start in
    let front = rw whole at c.front_group-run.ensures.front in
    let within = rw whole at c.front_group-run.ensures.within in
    let others = rw whole at c.front_group-run.ensures.rest in
    let own : Contains run first = (0, c.front_group-run.ensures.some, sym c.index-run-0.is) in
    let made : HasRoomAt after c.group.result (length run) = c.in_ok-reserve_group.ensures.room in
    record {
      within = omega (arith, c.loop-start.invariant.within, within, length-drop start xs);
      blocks = blocks_stay g.T.Group.Ord.cmp g.T.Key.Ord.cmp g.T.Grouped.group_of g.T.Keyed.key_of now after
          c.loop-start.invariant.blocks c.reserve_group.ensures.rise c.reserve_group.ensures.blocks;
      same = c.reserve_group.ensures.same ∙ c.loop-start.invariant.same;
      apart = apart_more xs run start front g.met.T.Group.Ord.total g.met.T.Grouped.group_ties g.T.Grouped.group_of
          c.front_group-run.ensures.one others c.loop-start.invariant.apart;
      room = room_more xs run start front g.met.T.Group.Ord.total g.met.T.Grouped.group_ties g.T.Grouped.group_of
          c.front_group-run.ensures.one others now after c.loop-start.invariant.apart c.loop-start.invariant.room
          c.reserve_group.ensures.stays first own (rw c.group.ensures at made);
    }

pub returns-clause-room : goal.returns-clause-room
returns-clause-room g c =
    let whole : take c.loop-start.start c.args.items.now ≡ c.args.items.now = take_all c.loop-start.start
    c.args.items.now (omega arith) in
    rw whole at c.loop-start.invariant.room
