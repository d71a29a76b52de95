use Rattle.std.proofs.Common.{◌↔◌, List, subst, sym}
use Rattle.std.specs.List.{Contains}
use Rattle.std.specs.Cmp.Lexicographic.{slice_cmp}
use Rattle.std.specs.Ordering.{nat_cmp}
use Rattle.std.proofs.lemmas.Result.{on_ok_weaker}
use Rattle.external_dependencies.specs.declared.links.Link.{Link}
use Rattle.external_dependencies.proofs.OrderLemmas.{name_ties}
use Rattle.plan_store_lists.specs.Blocks.{HasRoomAt, items_of}
use Rattle.plan_store_lists.specs.LinkBlocks.{names_cmp, names_of}
use Rattle.plan_store_lists.specs.declared.namings.Naming.{Naming}
use Rattle.plan_store_lists.proofs.RunLemmas.{blocks_stay}
use Rattle.plan_store_lists.proofs.link_blocks.LinkBlocks.reserve.Goals as goal

pub reserve_group-requires-clause-ties : goal.reserve_group-requires-clause-ties
reserve_group-requires-clause-ties c = name_ties

pub invariant_of-self : goal.invariant_of-self
invariant_of-self c = record {
  links = blocks_stay (slice_cmp nat_cmp) names_cmp (λ (link : Link). link.app) names_of
      c.self.inside.by_app.blocks.items c.reserve_group.new.list.blocks.items c.self.invariant.links
      c.reserve_group.ensures.rise c.reserve_group.ensures.blocks;
  namings = c.self.invariant.namings;
  same = λ naming. subst (λ (l : List Link). Contains (items_of c.self.inside.by_predecessor) naming
      ↔ Contains l naming.link) (sym c.reserve_group.ensures.same) (c.self.invariant.same naming);
}

pub invariant_of-self-2 : goal.invariant_of-self-2
invariant_of-self-2 c = record {
  links = blocks_stay (slice_cmp nat_cmp) names_cmp (λ (link : Link). link.app) names_of
      c.self.inside.by_app.blocks.items c.reserve_group.new.list.blocks.items c.self.invariant.links
      c.reserve_group.ensures.rise c.reserve_group.ensures.blocks;
  namings = c.reserve_namings.ensures.blocks;
  same = λ naming. subst (λ (l : List Naming). Contains l naming
      ↔ Contains (items_of c.reserve_group.new.list) naming.link) (sym c.reserve_namings.ensures.same)
      (subst (λ (l : List Link). Contains (items_of c.self.inside.by_predecessor) naming ↔ Contains l naming.link)
      (sym c.reserve_group.ensures.same) (c.self.invariant.same naming));
}

pub returns-clause-room : goal.returns-clause-room
returns-clause-room c =
    on_ok_weaker c.reserve_namings.result
    (λ (room : (link : Link) → Contains c.args.list.now.links.items link
    → HasRoomAt c.reserve_namings.new.namings.blocks.items link.predecessor 1).
    record { own = c.in_ok-reserve_group.ensures.room; named = room })
    (rw c.deref.ensures.value at c.reserve_namings.ensures.room)
