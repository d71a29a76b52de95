use Rattle.std.proofs.Common.{◌≡◌, take, take_all, arith}
use Rattle.plan_store_lists.specs.Blocks.{items_of}
use Rattle.plan_store_lists.proofs.LinkBlockLemmas.{removed_next}
use Rattle.plan_store_lists.proofs.namings.remove_namings.Goals as goal

pub loop-link-preserved : goal.loop-link-preserved
loop-link-preserved c =
    let so_far = c.loop-link.invariant in
    record {
      blocks = c.remove_run.ensures.blocks;
      removed = removed_next c.args.links.now c.loop-link.link-index c.link-item.result c.loop-link-test.true
          c.link-item.is (items_of c.args.namings.now) (items_of c.loop-link.namings) (items_of c.remove_run.new.list)
          so_far.removed c.remove_run.ensures.removed;
      stays = λ app count room. c.remove_run.ensures.stays app count (so_far.stays app count room);
    }

pub returns-clause-removed : goal.returns-clause-removed
returns-clause-removed c =
    let whole : take c.loop-link.link-index c.args.links.now ≡ c.args.links.now = take_all c.loop-link.link-index
    c.args.links.now (omega arith) in
    rw whole at c.loop-link.invariant.removed
