use Rattle.std.proofs.Common.{List, ap, subst, sym}
use Rattle.std.specs.List.{Contains}
use Rattle.external_dependencies.specs.declared.links.Link.{Link}
use Rattle.plan_store_lists.specs.LinkBlocks.{LinkList}
use Rattle.plan_store_lists.proofs.link_blocks.LinkBlocks.naming.Goals as goal

pub returns : goal.returns
returns c = record {
  keyed = c.of_group.ensures.keyed;
  all = λ naming.
      let is = c.of_group.ensures.all naming in
      let same = c.self.invariant.same naming in
      let whole = ap (λ (v : LinkList). v.items) c.self.view_is in (
        (λ there.
            let both = is.0 there in
            (subst (λ (l : List Link). Contains l naming.link) whole (same.0 both.0), both.1)),
        λ both. is.1 (same.1 (subst (λ (l : List Link). Contains l naming.link) (sym whole) both.0), both.1),
      );
}
