use Rattle.std.proofs.Common.{◌≡◌, [], take, take_all, subst, arith}
use Rattle.plan_store_lists.specs.Blocks.{HasRoomAt, items_of}
use Rattle.plan_store_lists.specs.Keyed.{LacksKey}
use Rattle.plan_store_lists.specs.LinkBlocks.{names_in, naming_of}
use Rattle.plan_store_lists.specs.declared.namings.Naming.{Naming}
use Rattle.plan_store_lists.proofs.KeyLemmas.{contains_first, one_is}
use Rattle.plan_store_lists.proofs.LinkBlockLemmas.{inserted_next, later_in, new_next, next_in, other_named}
use Rattle.plan_store_lists.proofs.namings.insert_namings.Goals as goal

pub insert_run-requires-clause-new : goal.insert_run-requires-clause-new
insert_run-requires-clause-new c x there =
    let now = items_of c.loop-link.namings in
    subst (λ (n : Naming). LacksKey names_in now (names_in n)) (one_is (naming_of c.link-item.result) x there)
    (new_next c.args.links.now c.loop-link.link-index c.link-item.result c.loop-link-test.true c.link-item.is
    c.requires.rising (items_of c.args.namings.now) now c.requires.new c.loop-link.invariant.inserted)

pub insert_run-requires-clause-room : goal.insert_run-requires-clause-room
insert_run-requires-clause-room c x there =
    let link = c.link-item.result in
    subst (λ (n : Naming). HasRoomAt c.loop-link.namings.blocks.items n.link.predecessor 1)
    (one_is (naming_of link) x there) (c.loop-link.invariant.room link (next_in c.args.links.now c.loop-link.link-index
    link c.loop-link-test.true c.link-item.is))

pub loop-link-preserved : goal.loop-link-preserved
loop-link-preserved c =
    let links = c.args.links.now in
    let i = c.loop-link.link-index in
    let link = c.link-item.result in
    let lt = c.loop-link-test.true in
    let at = c.link-item.is in
    let so_far = c.loop-link.invariant in
    record {
      blocks = c.insert_run.ensures.blocks;
      inserted = inserted_next links i link lt at (items_of c.args.namings.now) (items_of c.loop-link.namings)
          (items_of c.insert_run.new.list) so_far.inserted c.insert_run.ensures.inserted;
      room = λ x later. c.insert_run.ensures.stays (naming_of link) x.predecessor 1
          (contains_first (naming_of link) [])
          (other_named links i link lt at c.requires.rising c.requires.one x later)
          (so_far.room x (later_in links i link lt at x later));
    }

pub returns-clause-inserted : goal.returns-clause-inserted
returns-clause-inserted c =
    let whole : take c.loop-link.link-index c.args.links.now ≡ c.args.links.now = take_all c.loop-link.link-index
    c.args.links.now (omega arith) in
    rw whole at c.loop-link.invariant.inserted
