use Rattle.std.proofs.Common.{◌∙◌, ap, subst, sym}
use Rattle.plan_store_lists.specs.Blocks.{items_in, items_of}
use Rattle.plan_store_lists.specs.LinkBlocks.{HasListRoom, LinkList, with_list}
use Rattle.plan_store_lists.proofs.LinkBlockLemmas.{links_rising, none_named, put_same, with_list-is}
use Rattle.plan_store_lists.proofs.link_blocks.LinkBlocks.put.Goals as goal

pub insert_namings-requires-clause-one : goal.insert_namings-requires-clause-one
insert_namings-requires-clause-one c =
    rw c.deref.ensures.value (λ a b at_a at_b. c.args.list.own a at_a ∙ sym (c.args.list.own b at_b))

pub insert_namings-requires-clause-new : goal.insert_namings-requires-clause-new
insert_namings-requires-clause-new c =
    rw c.deref.ensures.value (none_named c.args.list.app c.args.list.links.items c.of_group.result.now
    (items_in c.self.inside.by_app.blocks.items) (items_of c.self.inside.by_predecessor)
    (items_of c.remove_namings.new.namings) c.self.invariant.same c.of_group.ensures.all
    c.remove_namings.ensures.removed c.args.list.own)

pub insert_namings-requires-clause-room : goal.insert_namings-requires-clause-room
insert_namings-requires-clause-room c =
    let has : HasListRoom c.args.list _ = subst (λ (v : LinkList). HasListRoom c.args.list v) (sym c.self.view_is)
    c.requires in
    rw c.deref.ensures.value (λ link there. c.remove_namings.ensures.stays link.predecessor 1 (has.named link there))

pub put_group-requires-clause-room : goal.put_group-requires-clause-room
put_group-requires-clause-room c =
    (subst (λ (v : LinkList). HasListRoom c.args.list v) (sym c.self.view_is) c.requires).own

pub invariant_of-self : goal.invariant_of-self
invariant_of-self c = record {
  links = c.put_group.ensures.blocks;
  namings = c.insert_namings.ensures.blocks;
  same = put_same c.args.list.app c.args.list.links.items c.of_group.result.now
      (items_in c.self.inside.by_app.blocks.items) (items_of c.self.inside.by_predecessor)
      (items_of c.remove_namings.new.namings) c.self.invariant.same c.of_group.ensures.all
      c.remove_namings.ensures.removed (items_of c.put_group.new.list) (items_of c.insert_namings.new.namings)
      (rw c.deref.ensures.value at c.insert_namings.ensures.inserted) c.put_group.ensures.replaced;
}

pub returns : goal.returns
returns c =
    let app = c.args.list.app in
    let list = c.args.list.links.items in
    let blocks = c.self.inside.by_app.blocks.items in
    let new = c.put_group.new.list.blocks.items in
    with_list-is app list (items_in blocks) c.args.list.rising c.args.list.own
    (links_rising blocks c.self.invariant.links) (items_in new) (links_rising new c.put_group.ensures.blocks) c.put_group.ensures.replaced
    ∙ ap (λ (v : LinkList). with_list app list v.items) c.self.view_is
