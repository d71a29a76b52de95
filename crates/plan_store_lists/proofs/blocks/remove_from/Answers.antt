use Rattle.std.proofs.Common.{◌≡◌, ◌-◌, length, take, drop, arith}
use Rattle.std.proofs.lemmas.List.{length-drop, take_all, take_rest}
use Rattle.plan_store_lists.specs.Blocks.{items_of}
use Rattle.plan_store_lists.proofs.RunLemmas.{removed_more}
use Rattle.plan_store_lists.proofs.blocks.remove_from.Goals as goal

pub loop-start-preserved : goal.loop-start-preserved
loop-start-preserved g c =
    let xs = c.args.items.now in
    let start = c.loop-start.start in
    let whole : take (length xs - start) (drop start xs) ≡ drop start xs = take_rest xs start in
    let front = rw whole at c.front_group-run.ensures.front in
    let within = rw whole at c.front_group-run.ensures.within in
    record {
      within = omega (arith, c.loop-start.invariant.within, within, length-drop start xs);
      blocks = c.remove_run.ensures.blocks;
      removed = removed_more xs c.front_group-run.result.now start front g.T.Keyed.key_of (items_of c.args.list.now)
          (items_of c.loop-start.list) (items_of c.remove_run.new.list) c.loop-start.invariant.removed
          c.remove_run.ensures.removed;
      stays = λ group count room.
          c.remove_run.ensures.stays group count (c.loop-start.invariant.stays group count room);
    }

pub returns-clause-removed : goal.returns-clause-removed
returns-clause-removed g c =
    let whole : take c.loop-start.start c.args.items.now ≡ c.args.items.now = take_all c.loop-start.start
    c.args.items.now (omega arith) in
    rw whole at c.loop-start.invariant.removed
