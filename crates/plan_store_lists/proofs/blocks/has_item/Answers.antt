use Rattle.std.proofs.Common.{◌∙◌}
use Rattle.plan_store_lists.proofs.KeyLemmas.{has_is}
use Rattle.plan_store_lists.proofs.BlockLemmas.{holds_in_group}
use Rattle.plan_store_lists.specs.Blocks.{items_of}
use Rattle.plan_store_lists.proofs.blocks.has_item.Goals as goal

pub returns : goal.returns
returns g c =
    let keys = g.met.T.Key.Ord.total in
    let ties = g.met.T.Keyed.ties in
    let key = g.T.Keyed.key_of in
    let own = c.of_group.result.now in
    let item = c.args.item.now in
    let taken = rw c.key.ensures at c.find.ensures.taken in
    let free = rw c.key.ensures at (c.find.ensures.free c.of_group.ensures.keyed) in
    let are = rw c.group.ensures at c.of_group.ensures.all in
    c.is_ok.ensures.value ∙ has_is keys ties key own (key item) c.find.result taken free
    ∙ holds_in_group g.met.T.Group.Ord.total g.met.T.Grouped.group_ties g.T.Key.Ord.cmp g.T.Grouped.group_of key keys
    ties g.met.T.Grouped.rises (items_of c.args.list.now) own item are
